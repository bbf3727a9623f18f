use Prim.Native.Nat.{◌-◌, ◌≤◌}
use mathlib.Core.Path.{◌≡◌}
use Rattle.classing.specs.Both.{wanted_to}
use Rattle.classing.proofs.wanting.wanted_columns.Given as goal

abbrev pub invariant-loop-n : goal.invariant-loop-n
invariant-loop-n l = (l.n ≤ l.nodes) × (l.wanted ≡ wanted_to l.plan l.classes l.n)

abbrev pub decreases-loop-n : goal.decreases-loop-n
decreases-loop-n l = l.nodes - l.n
