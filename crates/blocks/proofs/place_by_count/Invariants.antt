use mathlib.Core.Path.{◌≡◌}
use Prim.Native.Nat.{◌+◌, ◌≤◌, min}
use lib.ListN.{take}
use Rattle.blocks.specs.Blocks.{place_in}
use Rattle.blocks.proofs.place_by_count.Given as goal

abbrev pub invariant-loop-other : goal.invariant-loop-other
invariant-loop-other l = (l.other-index ≤ l.left) × (l.place + l.below ≡ min (l.place + l.other-index) (place_in (take (l.place + l.left) l.blocks) l.block))
