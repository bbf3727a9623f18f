-- A number is no time exactly if it is not both 0 or above and below the infinity.
use mathlib.Core.Path.{◌≡◌, refl}
use mathlib.Core.Bool.{true, false, not, ◌&&◌, ◌||◌}
use Prim.Native.Nat.{ℕ, zero, suc, ◌+◌, ◌*◌}
use native.Mathlib.Nat.{zero-mul}
use native.Mathlib.Omega.{arith}
use borrow.Author.Tests.{lt-ltb, le-ltb, ne_eqb}
use lib.Dec.{ltb, eqb}
use lib.Ieee.{Float, nan, inf, fin, up, down, lt, le, level}
use Rattle.std.specs.Float.{float_is_finite}
use Rattle.clock.specs.Clock.{zero_time, improper}

-- of a number that is not negative, and of one that is, by their sizes
upright : (size : ℕ) → ltb size 0 ≡ not ((ltb 0 size || (eqb 0 size && true)) && true)
upright zero = refl
upright (suc size) = rw (le-ltb (suc size) 0 (omega arith), lt-ltb 0 (suc size) (omega arith))

turned : (size : ℕ) → ltb 0 (size + 0) ≡ not (level false 0 true size && true)
turned zero = refl
turned (suc size) = rw (lt-ltb 0 (suc size + 0) (omega arith), ne_eqb 0 (suc size) (omega arith))

pub improper-is : (time : Float) → improper time ≡ not (le zero_time time && lt time (inf false))
unfolding improper le lt
improper-is nan = refl
improper-is (inf false) = refl
improper-is (inf true) = refl
improper-is (fin false m e) = rw (zero-mul (down e)) (upright (m * up e * 1))
improper-is (fin true m e) = rw (zero-mul (down e)) (turned (m * up e * 1))

-- As the library's test of a number tells it.
pub improper_by : (time : Float) → improper time ≡ (not (float_is_finite time) || lt time zero_time)
unfolding improper float_is_finite
improper_by nan = refl
improper_by (inf sign) = refl
improper_by (fin sign m e) = refl
