use Prim.Native.Nat.{◌-◌}
use Rattle.plan.specs.Listed.{plan_in}
use Rattle.keeping.specs.Starting.{MarksReached}
use Rattle.keeping.specs.Telling.{ToldSoFar}
use Rattle.keeping.proofs.stays.tell_others.Given as goal

abbrev pub invariant-loop-block : goal.invariant-loop-block
invariant-loop-block l = MarksReached (plan_in l.columns l.plan) l.work.marks × ToldSoFar (plan_in l.columns l.plan) l.wanted l.left l.block l.stays

abbrev pub decreases-loop-block : goal.decreases-loop-block
decreases-loop-block l = l.blocks - l.block
