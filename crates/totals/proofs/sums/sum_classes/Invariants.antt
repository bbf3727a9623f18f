use Prim.Native.Nat.{◌*◌, ◌≤◌, ◌-◌}
use mathlib.Core.Path.{◌≡◌}
use Rattle.chart.specs.Geometry.{most_touches}
use Rattle.totals.specs.Inner.{figures_of, Small, sums_to}
use Rattle.totals.proofs.sums.sum_classes.Given as goal

abbrev pub invariant-loop-n : goal.invariant-loop-n
invariant-loop-n l = (l.n ≤ l.nodes) × (Small (most_touches * l.n) l.sums × (l.sums ≡ sums_to l.classes (figures_of l.tariff l.floors l.ceilings) l.n))

abbrev pub decreases-loop-n : goal.decreases-loop-n
decreases-loop-n l = l.nodes - l.n
