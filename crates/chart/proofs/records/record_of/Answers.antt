use borrow.Author.Tests.{eq-eqb, ne_eqb}
use Rattle.chart.specs.Record.{record_of}
use Rattle.chart.proofs.records.record_of.Goals as goal

pub returns-then-kind-eq0 : goal.returns-then-kind-eq0
unfolding record_of
returns-then-kind-eq0 c = rw (eq-eqb _ _ c.if-kind-eq0.true)

pub returns : goal.returns
unfolding record_of
returns c = rw (ne_eqb _ _ c.if-kind-eq0.false, ← c.bytes_of-bytes.ensures.0)
