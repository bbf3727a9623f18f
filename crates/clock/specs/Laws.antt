-- Rules 11.18, 17.3 and 17.4 a second time, as statements: which times fit, what is rounded and where nothing is, and what keeps to a deadline. The
-- functions do not go by them: laws lead from the definitions of `Clock` here.
use Rattle.std.specs.Prelude.{ℕ, ◌+◌, ◌*◌, ◌^◌, ◌≤◌, true, false, ◌≡◌, T, Float}
use Rattle.std.specs.Float.{nan, inf, fin, binary64}
use Rattle.std.specs.Float.Ieee.{up, down, round, lt, le, eq}
use Rattle.std.specs.Float.Ieee.Exact.{HasValue}
use Rattle.std.specs.Float.Ieee.Scale.{finite}
use Rattle.std.specs.Float.Ieee.Positive.{num, den}
use Rattle.clock.specs.declared.ClockSheet.{ClockSheet}
use Rattle.clock.specs.declared.Deadline.{Deadline}
use Rattle.clock.specs.declared.Deadline.TheVariants.{None, Latest, Window}
use Rattle.clock.specs.Clock.{zero_time}

-- A number or the infinity, and no sign: neither a NaN nor below zero, nor -0.0.
abbrev pub NoSign : Float → Type 0
NoSign nan = ⊥
NoSign (inf s) = s ≡ false
NoSign (fin s m e) = s ≡ false

-- Rule 11.18 turned round, of one number. A time is finite, and 0 or above; -0.0 is one.
pub record IsTime (time : Float) : Type 0 where
  pub is_finite : T (finite time)
  pub no_less : T (le zero_time time)

-- Rule 11.18 turned round, of limits: they are times, and the earliest is no later than the latest.
abbrev pub LimitsFit : Deadline → Type 0
LimitsFit None = Unit {0}
LimitsFit (Latest latest) = IsTime latest
LimitsFit (Window earliest latest) = IsTime earliest × (IsTime latest × T (le earliest latest))

-- Rule 11.18 turned round: the period is a time and above 0, the overhead a time, and the limits fit.
pub record TimesFit (sheet : ClockSheet) (deadline : Deadline) : Type 0 where
  pub period : IsTime sheet.period
  pub period_above : T (lt zero_time sheet.period)
  pub overhead : IsTime sheet.overhead
  pub limits : LimitsFit deadline

-- A deadline with a latest time.
abbrev pub Limited : Deadline → Type 0
Limited None = ⊥
Limited (Latest latest) = Unit {0}
Limited (Window earliest latest) = Unit {0}

-- Rule 17.4, of one figure, which keeps to a deadline: no earlier than the earliest time, if there is one, and no later than the latest.
abbrev pub KeepsTo : Deadline → Float → Type 0
KeepsTo None figure = Unit {0}
KeepsTo (Latest latest) figure = T (le figure latest)
KeepsTo (Window earliest latest) figure = T (le earliest figure) × T (le figure latest)

-- ---- what is rounded

-- x and a time as fractions, added, and the sum rounded once; infinite where x is.
abbrev pub rounded_sum : Float → Float → Float
rounded_sum nan time = nan
rounded_sum (inf s) time = inf s
rounded_sum (fin s m e) time = round binary64 false (m * up e * den time + num time * down e) (down e * den time)

-- Rule 17.3: the figure of a total, rounded twice: total times period as a fraction, and then the sum of that with the overhead.
abbrev pub twice_rounded : ClockSheet → ℕ → Float
twice_rounded sheet total = rounded_sum (round binary64 false (total * num sheet.period) (den sheet.period)) sheet.overhead

-- ---- where nothing is rounded

-- Rule 17.3: a period of 2 ^ -j, for a j of at most 30, and an overhead of 0, of either sign.
pub record ExactSheet (sheet : ClockSheet) (j : ℕ) : Type 0 where
  pub most : j ≤ 30
  pub period : HasValue sheet.period false 1 (2 ^ j)
  pub overhead : eq sheet.overhead zero_time ≡ true

-- Rule 17.4, of a true time: n / 2 ^ j, as a fraction, keeps to a deadline. Limits that fit are the fractions `num` / `den`.
abbrev pub KeepsExactly : Deadline → ℕ → ℕ → Type 0
KeepsExactly None n j = Unit {0}
KeepsExactly (Latest latest) n j = n * den latest ≤ num latest * 2 ^ j
KeepsExactly (Window earliest latest) n j = (num earliest * 2 ^ j ≤ n * den earliest) × (n * den latest ≤ num latest * 2 ^ j)
