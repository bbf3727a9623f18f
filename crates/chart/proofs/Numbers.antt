-- Laws of shifts and masks by a variable width, and of the bytes of a word.
use mathlib.Core.Path.{◌≡◌}
use Prim.Native.Nat.{ℕ, zero, ◌+◌, ◌*◌, ◌/◌, ◌%◌, ◌^◌, ◌≤◌, ◌<◌}
use mathlib.Core.List.{List}
use native.Mathlib.Omega.{arith}
use Rattle.lists.proofs.Shifts.{one_shifted}
use Rattle.chart.specs.Layout.{number_at}
use native.Mathlib.Nat.{add_assoc, mod-eq_of_lt, div-eq_of_lt, lt_of_lt_of_le}
use lib.Pow.{pow_pos, pow_mono}

-- `1 << k` of a type of w bits is never 0.
pub one-shifted-pos : (w k : ℕ) → k < w → zero < (1 * 2 ^ k) % 2 ^ w
one-shifted-pos w k h = rw (one_shifted w k h) (pow_pos k)

-- A number of w bits, shifted and masked by w or more.
pub all-shifted-out : (w k n : ℕ) → w ≤ k → n < 2 ^ w → n / 2 ^ k ≡ 0
all-shifted-out w k n h s = div-eq_of_lt (lt_of_lt_of_le s (pow_mono h))

pub none-masked : (w k n : ℕ) → w ≤ k → n < 2 ^ w → n % 2 ^ k ≡ n
none-masked w k n h s = mod-eq_of_lt (lt_of_lt_of_le s (pow_mono h))

-- Eight bytes are four and four more.
pub two-halves : (bytes : List ℕ) (place : ℕ) → number_at bytes place 4 * 4294967296 + number_at bytes (place + 4) 4 ≡ number_at bytes place 8
two-halves bytes place = simp add_assoc (omega arith)
