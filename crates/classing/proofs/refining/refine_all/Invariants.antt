use mathlib.Core.Path.{◌≡◌}
use lib.ListN.{get_or}
use Rattle.lists.specs.Loops.{patch}
use Rattle.classing.specs.Both.{refined}
use Rattle.classing.proofs.refining.refine_all.Given as goal

abbrev pub invariant-loop-i : goal.invariant-loop-i
invariant-loop-i l = l.class-items ≡ patch l.initial.class-items 0 l.i (λ k. refined (get_or l.initial.class-items k 0) (get_or l.stays k 0))
