use Prim.Native.Nat.{◌≤◌, ◌-◌}
use mathlib.Core.Path.{◌≡◌}
use lib.ListN.{length}
use Rattle.chart.specs.Geometry.{most_blocks}
use Rattle.totals.specs.Charged.{charged_to}
use Rattle.totals.proofs.charging.charged_blocks.Given as goal

abbrev pub invariant-loop-n : goal.invariant-loop-n
invariant-loop-n l = (l.n ≤ l.nodes) × ((length l.charged ≡ most_blocks) × (l.charged ≡ charged_to l.plan.numbers.now l.classes l.ceilings l.n))

abbrev pub decreases-loop-n : goal.decreases-loop-n
decreases-loop-n l = l.nodes - l.n
