-- Totals in microseconds, and deadlines. Rules 11.18 and 17.1 to 17.4; that refusal 18 comes after all others is said in the crate `deadline`.
-- Floats are those of the proof library's account of IEEE 754 (`lib.Ieee`), of which `binary64` has 64 bits: each is not a number, or an infinity,
-- or a sign, a whole number and a power of two; -0.0 is a value of its own, which compares as 0.0 does. A NaN compares with nothing.
use Rattle.std.specs.Prelude.{ℕ, Bool, true, false, not, ◌&&◌, ◌||◌, pos, Float}
use Rattle.std.specs.Float.{fin, binary64}
use Rattle.std.specs.Float.Ieee.{of_int, mul, add, lt, le, eq, to_bits}
use Rattle.std.specs.Float.Ieee.Scale.{finite}
use Rattle.clock.specs.declared.ClockSheet.{ClockSheet}
use Rattle.clock.specs.declared.Deadline.{Deadline}
use Rattle.clock.specs.declared.Deadline.TheVariants.{None, Latest, Window}

-- 0.0
abbrev pub zero_time : Float
zero_time = fin false 0 (pos 0)

-- Rules 17.1 and 17.3: a total as a float, one rounded product with the period, and then one rounded sum with the overhead.
unfoldable pub figure_of : ClockSheet → ℕ → Float
figure_of sheet total = add binary64 (mul binary64 (of_int binary64 (pos total)) sheet.period) sheet.overhead

-- The bits of a figure, as a number. No figure that is answered is a NaN, of which there are many.
abbrev pub bits_of : Float → ℕ
bits_of figure = to_bits binary64 figure

-- Rule 11.18: not finite, or below zero.
unfoldable pub improper : Float → Bool
improper time = not (finite time) || lt time zero_time

-- Rule 11.18, of the limits that a deadline has: such a limit, or a window the wrong way round.
abbrev pub limits_impossible : Deadline → Bool
limits_impossible None = false
limits_impossible (Latest latest) = improper latest
limits_impossible (Window earliest latest) = improper earliest || improper latest || lt latest earliest

-- Rule 11.18.
abbrev pub impossible : ClockSheet → Deadline → Bool
impossible sheet deadline =
    eq sheet.period zero_time || improper sheet.period || improper sheet.overhead || limits_impossible deadline

-- Rules 17.2 and 17.4: whether a low and a high figure meet a deadline, of which there are three kinds.
abbrev pub meets : Deadline → Float → Float → Bool
meets None low high = true
meets (Latest latest) low high = le high latest
meets (Window earliest latest) low high = le earliest low && le high latest
