use mathlib.Core.Bool.{false}
use mathlib.Core.Path.{◌≡◌}
use Prim.Native.Nat.{ℕ, ◌*◌, ◌≤◌, ◌<◌}
use Rattle.bits.specs.Bits.{is_member}
use Rattle.bits.proofs.first_in_words.Given as goal

abbrev pub invariant-loop-word : goal.invariant-loop-word
invariant-loop-word l = (m : ℕ) → 64 * l.first ≤ m → m < 64 * l.word → is_member l.set m ≡ false
