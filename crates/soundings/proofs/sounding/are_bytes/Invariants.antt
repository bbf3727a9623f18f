use mathlib.Core.List.{List}
use Prim.Native.Nat.{ℕ, ◌≤◌, ◌<◌}
use lib.ListN.{length, get_or}
use Rattle.soundings.proofs.sounding.are_bytes.Given as goal

-- The first k of a list are below 256.
abbrev pub Below : List ℕ → ℕ → Type 0
Below l k = (i : ℕ) → i < k → get_or l i 0 < 256

abbrev pub invariant-loop-byte : goal.invariant-loop-byte
invariant-loop-byte l = (l.byte-index ≤ length l.lent) × Below l.lent l.byte-index
