use Rattle.chart.specs.Record.{record_keeps}
use Rattle.chart.proofs.Sizes.{within-words}
use Rattle.chart.proofs.records.record_keeps.Goals as goal

pub returns : goal.returns
unfolding record_keeps
returns c = let a = c.args in
    let b = c.bytes_of-bytes in
    let e = within-words a.fields.address b.result b.ensures.1.0 b.ensures.1.1 in
    rw (c.arrow_keeps-first.ensures, c.arrow_keeps-second.ensures, c.twins-alike.ensures, e, b.ensures.0)
