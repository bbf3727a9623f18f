use borrow.Author.Rules.{rules}
use Rattle.lists.proofs.Choice.{first_passes}
use Rattle.totals.specs.Totals.{floor_at_unmarked}
use Rattle.totals.proofs.bounds.first_floor_at_unmarked.Goals as goal

pub loop-n-preserved : goal.loop-n-preserved
loop-n-preserved c = let a = c.args in
    let l = c.loop-n in
    (search rules, first_passes a.nodes l.n (floor_at_unmarked a.marks.now a.floors.now) c.loop-n-test.true c.if-marks-n.false l.invariant.1)
