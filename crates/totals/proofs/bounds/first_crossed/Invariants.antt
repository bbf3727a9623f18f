use mathlib.Core.Path.{◌≡◌}
use Prim.Native.Nat.{◌≤◌, ◌-◌}
use Rattle.lists.specs.Choice.{first, first_from}
use Rattle.totals.specs.Totals.{crossed_at}
use Rattle.totals.proofs.bounds.first_crossed.Given as goal

abbrev pub invariant-loop-n : goal.invariant-loop-n
invariant-loop-n l = (l.n ≤ l.nodes) × (first l.nodes (crossed_at l.floors l.ceilings) ≡ first_from l.n (l.nodes - l.n) (crossed_at l.floors l.ceilings))

abbrev pub decreases-loop-n : goal.decreases-loop-n
decreases-loop-n l = l.nodes - l.n
