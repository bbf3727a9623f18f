use borrow.Author.Rules.{rules}
use native.Mathlib.Omega.{arith}
use Rattle.classing.proofs.Wanted.{none_yet, wanted-turn}
use Rattle.classing.proofs.wanting.wanted_columns.Goals as goal

pub loop-n-init : goal.loop-n-init
loop-n-init c = (omega arith, none_yet c.args.plan.now c.args.classes.now)

pub loop-n-preserved : goal.loop-n-preserved
loop-n-preserved c = (search rules, wanted-turn c.args.plan.now c.args.classes.now c.loop-n.n c.loop-n.wanted c.wanted_at-wanted.result c.loop-n.invariant.1 c.wanted_at-wanted.ensures)
