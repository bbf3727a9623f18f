-- Soundings of figures, times and verdicts, by the bits of 64-bit floats: a period of 0.125 and others, ties and two roundings that one would not
-- give, the smallest and the largest numbers, either zero, NaNs and infinities, and limits at a figure and next to it. Nothing here is a rule of
-- the tool: these are examples of rules 11.18, 17.3 and 17.4, and `ClockSounded` holds the definitions to them.
use Rattle.std.specs.Prelude.{ℕ, ◌^◌, ◌-◌, Bool, cond, List, [], ◌∷◌, ◌≡◌, Float}
use Rattle.std.specs.Float.{binary64}
use Rattle.std.specs.Float.Ieee.{of_bits}
use Rattle.lists.specs.Soundings.{Sounding, ◌reads◌, Hold}
use Rattle.clock.specs.declared.ClockSheet.{ClockSheet}
use Rattle.clock.specs.declared.Deadline.{Deadline}
use Rattle.clock.specs.declared.Deadline.TheVariants.{None, Latest, Window}
use Rattle.clock.specs.Clock.{zero_time, bits_of, figure_of, improper, impossible, meets}
use Rattle.clock.specs.Laws.{NoSign, ExactSheet, KeepsTo}

-- ---- numbers by their bits

abbrev pub number : ℕ → Float
number bits = of_bits binary64 bits

abbrev pub zero : ℕ
zero = 0x0000000000000000

abbrev pub minus_zero : ℕ
minus_zero = 0x8000000000000000

-- 2 ^ -1074, and the same below zero.
abbrev pub smallest : ℕ
smallest = 0x0000000000000001

abbrev pub minus_smallest : ℕ
minus_smallest = 0x8000000000000001

-- The largest finite number.
abbrev pub largest : ℕ
largest = 0x7FEFFFFFFFFFFFFF

abbrev pub infinity : ℕ
infinity = 0x7FF0000000000000

abbrev pub minus_infinity : ℕ
minus_infinity = 0xFFF0000000000000

abbrev pub nan_bits : ℕ
nan_bits = 0x7FF8000000000000

-- 2 ^ -30, 0.125, 1, 2, 4, and 2.5 with the numbers next to it.
abbrev pub billionth : ℕ
billionth = 0x3E10000000000000

abbrev pub eighth : ℕ
eighth = 0x3FC0000000000000

abbrev pub one : ℕ
one = 0x3FF0000000000000

abbrev pub two : ℕ
two = 0x4000000000000000

abbrev pub four : ℕ
four = 0x4010000000000000

abbrev pub two_and_half : ℕ
two_and_half = 0x4004000000000000

abbrev pub next_below : ℕ
next_below = 0x4003FFFFFFFFFFFF

abbrev pub next_above : ℕ
next_above = 0x4004000000000001

-- ---- figures

abbrev pub sheet : ℕ → ℕ → ClockSheet
sheet period overhead = record { period = number period; overhead = number overhead }

-- The bits of the figure of a total.
abbrev pub figure : ℕ → ℕ → ℕ → List ℕ
figure period overhead total = bits_of (figure_of (sheet period overhead) total) ∷ []

abbrev pub figures_sounded : List Sounding
figures_sounded =
    -- 20 cycles of 0.125 are 2.5, and with an overhead of 2 they are 4.5; nothing is 0, or the overhead
    (figure eighth zero 20 reads (two_and_half ∷ []))
    ∷ (figure eighth two 20 reads (0x4012000000000000 ∷ []))
    ∷ (figure eighth zero 0 reads (zero ∷ []))
    ∷ (figure eighth two 0 reads (two ∷ []))
    -- an overhead of -0.0 changes nothing, and 0.0 stays 0.0
    ∷ (figure eighth minus_zero 20 reads (two_and_half ∷ []))
    ∷ (figure eighth minus_zero 0 reads (zero ∷ []))
    -- 0.1 as a float is a little more than a tenth: 3 times it is 0.30000000000000004
    ∷ (figure 0x3FB999999999999A zero 3 reads (0x3FD3333333333334 ∷ []))
    -- a third and 0.1: product and sum are each rounded; one rounding of both would end in 9
    ∷ (figure 0x3FD5555555555555 0x3FB999999999999A 3 reads (0x3FF199999999999A ∷ []))
    -- 0.7 and 1.1 likewise; and neither is taken in parts: an overhead of 2.3 in halves, or in cycles of the smallest period, 7 cycles of 0.3 as 6
    -- and 1
    ∷ (figure 0x3FE6666666666666 0x3FF199999999999A 3 reads (0x4009999999999999 ∷ []))
    ∷ (figure 0x3FB999999999999A 0x4002666666666666 29 reads (0x4014CCCCCCCCCCCD ∷ []))
    ∷ (figure smallest 0x3FB999999999999A 1 reads (0x3FB999999999999A ∷ []))
    ∷ (figure 0x3FD3333333333333 zero 7 reads (0x4000CCCCCCCCCCCD ∷ []))
    -- a sum a little above a tie, for which 64 digits are not enough, and one at a tie; the smallest overhead
    ∷ (figure one 0x3CA0010000000000 1 reads (0x3FF0000000000001 ∷ []))
    ∷ (figure one 0x3CA0000000000000 1 reads (one ∷ []))
    ∷ (figure eighth smallest 0 reads (smallest ∷ []))
    -- ties go to the even neighbour: 3 times 1 + 2 ^ -52 up, 5 times 1 + 2 ^ -51 down
    ∷ (figure 0x3FF0000000000001 zero 3 reads (0x4008000000000002 ∷ []))
    ∷ (figure 0x3FF0000000000002 zero 5 reads (0x4014000000000002 ∷ []))
    -- the smallest period, and the largest: five of the one stay five, two of the other are the infinity, and so is the largest overhead with the
    -- largest figure
    ∷ (figure smallest zero 5 reads (5 ∷ []))
    ∷ (figure largest zero 1 reads (largest ∷ []))
    ∷ (figure largest zero 2 reads (infinity ∷ []))
    ∷ (figure largest largest 1 reads (infinity ∷ []))
    ∷ (figure largest largest 2 reads (infinity ∷ []))
    -- 2 ^ 53 - 1 has as many digits as a float keeps
    ∷ (figure one zero (2 ^ 53 - 1) reads (0x433FFFFFFFFFFFFF ∷ []))
    -- and 2 ^ -30 times it has too
    ∷ (figure billionth zero (2 ^ 53 - 1) reads (0x415FFFFFFFFFFFFF ∷ []))
    ∷ []

-- ---- times

abbrev pub flag : Bool → ℕ
flag test = cond test 1 0

-- 1 where the number is no time.
abbrev pub untimely : ℕ → ℕ
untimely bits = flag (improper (number bits))

abbrev pub times_sounded : List Sounding
times_sounded =
    ((untimely zero ∷ untimely minus_zero ∷ untimely smallest ∷ untimely one ∷ untimely largest ∷ []) reads (0 ∷ 0 ∷ 0 ∷ 0 ∷ 0 ∷ []))
    ∷ ((untimely minus_smallest ∷ untimely 0xBFF0000000000000 ∷ untimely infinity ∷ untimely minus_infinity ∷ []) reads (1 ∷ 1 ∷ 1 ∷ 1 ∷ []))
    -- NaNs: quiet, signalling, with a sign, all ones
    ∷ ((untimely nan_bits ∷ untimely 0x7FF0000000000001 ∷ untimely 0xFFF8000000000000 ∷ untimely 0xFFFFFFFFFFFFFFFF ∷ []) reads (1 ∷ 1 ∷ 1 ∷ 1 ∷ []))
    ∷ []

-- ---- refusal 18

-- 1 where it applies.
abbrev pub refusing : ℕ → ℕ → Deadline → ℕ
refusing period overhead deadline = flag (impossible (sheet period overhead) deadline)

abbrev pub latest : ℕ → Deadline
latest bits = Latest (number bits)

abbrev pub window : ℕ → ℕ → Deadline
window earliest latest = Window (number earliest) (number latest)

abbrev pub refusals_sounded : List Sounding
refusals_sounded =
    -- a period of either zero; the smallest and the largest; below zero, and no number
    ((refusing zero zero None ∷ refusing minus_zero zero None ∷ refusing smallest zero None ∷ refusing largest zero None ∷ []) reads (1 ∷ 1 ∷ 0 ∷ 0 ∷ []))
    ∷ ((refusing minus_smallest zero None ∷ refusing infinity zero None ∷ refusing minus_infinity zero None ∷ refusing nan_bits zero None ∷ []) reads (1 ∷ 1 ∷ 1 ∷ 1 ∷ []))
    -- an overhead of either zero, and others
    ∷ ((refusing one zero None ∷ refusing one minus_zero None ∷ refusing one largest None ∷ []) reads (0 ∷ 0 ∷ 0 ∷ []))
    ∷ ((refusing one minus_smallest None ∷ refusing one infinity None ∷ refusing one nan_bits None ∷ []) reads (1 ∷ 1 ∷ 1 ∷ []))
    -- a latest time
    ∷ ((refusing one zero (latest zero) ∷ refusing one zero (latest minus_zero) ∷ refusing one zero (latest largest) ∷ []) reads (0 ∷ 0 ∷ 0 ∷ []))
    ∷ ((refusing one zero (latest minus_smallest) ∷ refusing one zero (latest infinity) ∷ refusing one zero (latest nan_bits) ∷ []) reads (1 ∷ 1 ∷ 1 ∷ []))
    -- windows: of one point, of two zeros, the right way round and the wrong, and with a limit that is no time
    ∷ ((refusing one zero (window two two) ∷ refusing one zero (window zero minus_zero) ∷ refusing one zero (window minus_zero zero) ∷ refusing one zero (window one two) ∷ []) reads (0 ∷ 0 ∷ 0 ∷ 0 ∷ []))
    ∷ ((refusing one zero (window two one) ∷ refusing one zero (window next_above two_and_half) ∷ refusing one zero (window smallest zero) ∷ []) reads (1 ∷ 1 ∷ 1 ∷ []))
    ∷ ((refusing one zero (window minus_smallest two) ∷ refusing one zero (window 0xBFF0000000000000 two) ∷ refusing one zero (window minus_zero two) ∷ []) reads (1 ∷ 1 ∷ 0 ∷ []))
    ∷ ((refusing one zero (window nan_bits two) ∷ refusing one zero (window one nan_bits) ∷ refusing one zero (window one infinity) ∷ refusing one zero (window minus_infinity two) ∷ []) reads (1 ∷ 1 ∷ 1 ∷ 1 ∷ []))
    ∷ []

-- ---- verdicts

-- 1 where a low and a high figure meet a deadline.
abbrev pub meeting : Deadline → ℕ → ℕ → ℕ
meeting deadline low high = flag (meets deadline (number low) (number high))

abbrev pub verdicts_sounded : List Sounding
verdicts_sounded =
    -- none is always met, also by an infinite figure
    ((meeting None one two ∷ meeting None infinity infinity ∷ meeting None two one ∷ meeting None nan_bits nan_bits ∷ []) reads (1 ∷ 1 ∷ 1 ∷ 1 ∷ []))
    -- a latest time at the high figure, next above it and next below it; the low figure is not looked at
    ∷ ((meeting (latest two_and_half) one two_and_half ∷ meeting (latest next_above) one two_and_half ∷ meeting (latest next_below) one two_and_half ∷ []) reads (1 ∷ 1 ∷ 0 ∷ []))
    ∷ ((meeting (latest two) largest two ∷ meeting (latest one) one nan_bits ∷ meeting (window one two) nan_bits two ∷ []) reads (1 ∷ 0 ∷ 0 ∷ []))
    -- an infinite figure meets no latest time
    ∷ ((meeting (latest largest) one infinity ∷ meeting (latest largest) one largest ∷ []) reads (0 ∷ 1 ∷ []))
    -- a window: its earliest at the low figure, next below and next above; its latest at the high one and next below
    ∷ ((meeting (window two_and_half four) two_and_half four ∷ meeting (window next_below four) two_and_half four ∷ meeting (window next_above four) two_and_half four ∷ []) reads (1 ∷ 1 ∷ 0 ∷ []))
    -- of one point, at both figures and next to them
    ∷ ((meeting (window two two) two two ∷ meeting (window next_below next_below) two_and_half two_and_half ∷ meeting (window next_above next_above) two_and_half two_and_half ∷ []) reads (1 ∷ 0 ∷ 0 ∷ []))
    ∷ ((meeting (window one largest) two two_and_half ∷ []) reads (1 ∷ []))
    ∷ ((meeting (window one two_and_half) one two_and_half ∷ meeting (window one next_below) one two_and_half ∷ meeting (window zero largest) infinity infinity ∷ []) reads (1 ∷ 0 ∷ 0 ∷ []))
    -- either zero is the other
    ∷ ((meeting (latest minus_zero) zero zero ∷ meeting (window minus_zero zero) zero zero ∷ []) reads (1 ∷ 1 ∷ []))
    ∷ []

pub record ClockSounded : Type 0 where
  pub figures : Hold figures_sounded
  pub times : Hold times_sounded
  pub refusals : Hold refusals_sounded
  pub verdicts : Hold verdicts_sounded
  -- 0.0 by its bits
  pub zero_bits : bits_of zero_time ≡ 0
  -- the exact case has its ends: 2 ^ -30 and 1, and either zero for an overhead
  pub least_exact : ExactSheet (sheet billionth zero) 30
  pub most_exact : ExactSheet (sheet one minus_zero) 0
  -- what is late or early does not keep to a deadline
  pub late : KeepsTo (latest next_below) (number two_and_half) → ⊥
  pub window_late : KeepsTo (window one next_below) (number two_and_half) → ⊥
  pub window_early : KeepsTo (window next_above four) (number two_and_half) → ⊥
  -- and neither a NaN nor -0.0 is without a sign
  pub nan_sign : NoSign (number nan_bits) → ⊥
  pub zero_sign : NoSign (number minus_zero) → ⊥
