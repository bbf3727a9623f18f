use mathlib.Core.Path.{◌≡◌}
use Prim.Native.Nat.{◌≤◌}
use lib.ListN.{length}
use Rattle.blocks.proofs.Shift.{shifted, carried_at}
use Rattle.blocks.proofs.shift_in.Given as goal

abbrev pub invariant-loop-slot : goal.invariant-loop-slot
invariant-loop-slot l = (l.slot-index ≤ length l.initial.part) × (l.part ≡ shifted l.initial.part l.block l.slot-index) × (l.carried ≡ carried_at l.initial.part l.block l.slot-index)
