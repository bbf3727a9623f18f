-- The clock's definitions give what the soundings want, by computing.
use mathlib.Core.Path.{◌≡◌, refl}
use mathlib.Core.Bool.{true≢false}
use native.Mathlib.Omega.{arith}
use lib.Ieee.{of_bits, to_bits, of_int, mul, add, lt, le, eq}
use Rattle.lists.specs.Soundings.{Hold}
use Rattle.clock.specs.Clock.{zero_time, bits_of, figure_of, improper}
use Rattle.clock.specs.Laws.{NoSign, ExactSheet, KeepsTo}
use Rattle.clock.specs.Sounded.{number, zero, minus_zero, nan_bits, billionth, one, four, two_and_half, next_below, next_above, sheet, latest, window, figures_sounded, times_sounded, refusals_sounded, verdicts_sounded, ClockSounded}

figures-hold : Hold figures_sounded
unfolding of_bits to_bits of_int mul add figure_of
figures-hold = refl

times-hold : Hold times_sounded
unfolding of_bits lt improper
times-hold = refl

refusals-hold : Hold refusals_sounded
unfolding of_bits lt eq improper
refusals-hold = refl

verdicts-hold : Hold verdicts_sounded
unfolding of_bits le
verdicts-hold = refl

-- ---- words of the laws

zero_bits : bits_of zero_time ≡ 0
unfolding to_bits
zero_bits = refl

least_exact : ExactSheet (sheet billionth zero) 30
unfolding of_bits eq
least_exact = record { most = omega arith; period = (refl, refl); overhead = refl }

most_exact : ExactSheet (sheet one minus_zero) 0
unfolding of_bits eq
most_exact = record { most = omega arith; period = (refl, refl); overhead = refl }

late-told : KeepsTo (latest next_below) (number two_and_half) → ⊥
unfolding of_bits le
late-told k = k

window-late-told : KeepsTo (window one next_below) (number two_and_half) → ⊥
unfolding of_bits le
window-late-told k = k.1

window-early-told : KeepsTo (window next_above four) (number two_and_half) → ⊥
unfolding of_bits le
window-early-told k = k.0

nan_sign : NoSign (number nan_bits) → ⊥
unfolding of_bits
nan_sign k = k

zero_sign : NoSign (number minus_zero) → ⊥
unfolding of_bits
zero_sign k = true≢false k

pub clock_sounded : ClockSounded
clock_sounded =
    record {
      figures = figures-hold;
      times = times-hold;
      refusals = refusals-hold;
      verdicts = verdicts-hold;
      zero_bits = zero_bits;
      least_exact = least_exact;
      most_exact = most_exact;
      late = late-told;
      window_late = window-late-told;
      window_early = window-early-told;
      nan_sign = nan_sign;
      zero_sign = zero_sign;
    }
