use mathlib.Core.Path.{◌≡◌}
use Prim.Native.Nat.{◌-◌, ◌≤◌}
use lib.ListN.{length}
use Rattle.lists.specs.Choice.{first, first_from}
use Rattle.lists.specs.Lists.{padded}
use Rattle.blocks.specs.Blocks.{gathered}
use Rattle.chart.specs.Chart.{records_in, blocks_at, overfull_at}
use Rattle.chart.specs.Geometry.{most_blocks}
use Rattle.chart.proofs.gathering.gather.Given as goal

abbrev pub invariant-loop-n : goal.invariant-loop-n
invariant-loop-n l = (l.n ≤ l.nodes) × ((l.count ≤ most_blocks) × ((length l.blocks ≡ length l.initial.blocks)
    × ((l.count ≡ length (gathered (blocks_at l.geometry (records_in l.chart)) l.n)) × ((l.blocks ≡ padded most_blocks (gathered (blocks_at l.geometry (records_in l.chart)) l.n))
    × (first l.nodes (overfull_at l.geometry (records_in l.chart)) ≡ first_from l.n (l.nodes - l.n) (overfull_at l.geometry (records_in l.chart)))))))

abbrev pub decreases-loop-n : goal.decreases-loop-n
decreases-loop-n l = l.nodes - l.n
