use borrow.Author.Tests.{eq-eqb, ne_eqb}
use mathlib.Core.Bool.{◌&&◌}
use Rattle.lists.proofs.Choice.{and_last}
use Rattle.chart.specs.Record.{arrows_of}
use Rattle.certificate.proofs.visiting.Claimed.targets_hold.Goals as goal

pub returns-then-outs-eq0 : goal.returns-then-outs-eq0
unfolding arrows_of
returns-then-outs-eq0 c = rw (eq-eqb _ _ c.if-outs-eq0.true)

pub returns-then-outs-eq1 : goal.returns-then-outs-eq1
unfolding arrows_of
returns-then-outs-eq1 c = rw (ne_eqb _ _ c.if-outs-eq0.false, eq-eqb _ _ c.if-outs-eq1.true, and_last) c.arrow_holds-one.ensures

pub returns : goal.returns
unfolding arrows_of
returns c = rw (ne_eqb _ _ c.if-outs-eq0.false, ne_eqb _ _ c.if-outs-eq1.false, and_last)
    (λ i. c.arrow_holds-one.ensures i && c.arrow_holds-other.ensures i)
