use mathlib.Core.Path.{◌≡◌}
use Prim.Native.Nat.{◌≤◌, ◌-◌}
use Rattle.lists.specs.Choice.{first, first_from}
use Rattle.totals.specs.Totals.{floor_at_unmarked}
use Rattle.totals.proofs.bounds.first_floor_at_unmarked.Given as goal

abbrev pub invariant-loop-n : goal.invariant-loop-n
invariant-loop-n l = (l.n ≤ l.nodes) × (first l.nodes (floor_at_unmarked l.marks l.floors) ≡ first_from l.n (l.nodes - l.n) (floor_at_unmarked l.marks l.floors))

abbrev pub decreases-loop-n : goal.decreases-loop-n
decreases-loop-n l = l.nodes - l.n
