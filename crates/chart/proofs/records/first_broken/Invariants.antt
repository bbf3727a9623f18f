use mathlib.Core.Path.{◌≡◌}
use Prim.Native.Nat.{◌≤◌, ◌-◌}
use Rattle.lists.specs.Choice.{first, first_from}
use Rattle.chart.specs.Chart.{records_in, broken_at}
use Rattle.chart.proofs.records.first_broken.Given as goal

abbrev pub invariant-loop-n : goal.invariant-loop-n
invariant-loop-n l = (l.n ≤ l.nodes) × (first l.nodes (broken_at (records_in l.chart) l.nodes) ≡ first_from l.n (l.nodes - l.n) (broken_at (records_in l.chart) l.nodes))

abbrev pub decreases-loop-n : goal.decreases-loop-n
decreases-loop-n l = l.nodes - l.n
