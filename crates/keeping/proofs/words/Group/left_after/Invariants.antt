use Prim.Native.Nat.{◌-◌, ◌≤◌}
use Rattle.keeping.specs.Choosing.{TakenOut}
use Rattle.keeping.proofs.words.Group.left_after.Given as goal

abbrev pub invariant-loop-m : goal.invariant-loop-m
invariant-loop-m l = (l.m ≤ l.blocks) × TakenOut l.self.chosen l.blocks l.left l.rest

abbrev pub decreases-loop-m : goal.decreases-loop-m
decreases-loop-m l = l.blocks - l.m
