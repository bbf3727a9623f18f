use Prim.Native.Nat.{◌-◌, ◌≤◌}
use mathlib.Core.Path.{◌≡◌}
use lib.ListN.{replicate}
use Rattle.chart.specs.Geometry.{most_blocks}
use Rattle.keeping.specs.Choosing.{picked_all}
use Rattle.keeping.proofs.choosing.choose.Given as goal

abbrev pub invariant-loop-m : goal.invariant-loop-m
invariant-loop-m l = (l.m ≤ l.blocks) × (l.chosen ≡ picked_all l.columns l.sets l.left l.block l.m (replicate most_blocks 0))

abbrev pub decreases-loop-m : goal.decreases-loop-m
decreases-loop-m l = l.blocks - l.m
