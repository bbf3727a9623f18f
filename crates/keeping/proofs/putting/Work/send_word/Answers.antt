use borrow.Author.Tests.{eq-eqb, ne_eqb}
use Rattle.chart.specs.Record.{arrows_of}
use Rattle.keeping.proofs.putting.Work.send_word.Goals as goal

pub returns-then-targets-eq0 : goal.returns-then-targets-eq0
unfolding arrows_of
returns-then-targets-eq0 c = rw (eq-eqb _ _ c.if-targets-eq0.true)

pub returns-then-targets-eq1 : goal.returns-then-targets-eq1
unfolding arrows_of
returns-then-targets-eq1 c = rw (ne_eqb _ _ c.if-targets-eq0.false, eq-eqb _ _ c.if-targets-eq1.true) c.put_word-sent.ensures

pub returns : goal.returns
unfolding arrows_of
returns c = rw (ne_eqb _ _ c.if-targets-eq0.false, ne_eqb _ _ c.if-targets-eq1.false, ← c.put_word-sent.ensures) c.put_word.ensures
