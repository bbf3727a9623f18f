use borrow.Author.Rules.{rules}
use borrow.Author.Tests.{le-ltb}
use Rattle.lists.proofs.Choice.{first_passes}
use Rattle.totals.specs.Totals.{crossed_at}
use Rattle.totals.proofs.bounds.first_crossed.Goals as goal

pub loop-n-preserved : goal.loop-n-preserved
loop-n-preserved c = let a = c.args in
    let l = c.loop-n in
    (search rules, first_passes a.nodes l.n (crossed_at a.floors.now a.ceilings.now) c.loop-n-test.true (le-ltb _ _ c.if-ceilings-n.false) l.invariant.1)
