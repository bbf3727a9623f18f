-- Refusal 18 does not apply exactly where the times fit; and what lies between two figures that meet a deadline keeps to it.
use mathlib.Core.Path.{◌≡◌, refl, sym, ap, ◌∙◌}
use mathlib.Core.Bool.{Bool, true, false, not, ◌&&◌, ◌||◌, true≢false}
use Prim.Native.Nat.{ℕ, ◌*◌}
use native.Mathlib.Nat.{zero-mul}
use native.Mathlib.Omega.{arith}
use borrow.Author.Tests.{not-false, ltb-true, ltb-false, eq-eqb, ne_eqb}
use lib.Dec.{T}
use lib.Ieee.{Float, nan, inf, fin, up, down, lt, eq, le, below, level}
use lib.Ieee.Scale.{finite}
use denote.Floats.{passes, is_true}
use Rattle.lists.proofs.Choice.{and-true, true-and, or-false, false-or}
use Rattle.clock.specs.declared.ClockSheet.{ClockSheet}
use Rattle.clock.specs.declared.Deadline.{Deadline}
use Rattle.clock.specs.declared.Deadline.TheVariants.{None, Latest, Window}
use Rattle.clock.specs.Clock.{zero_time, improper, limits_impossible, impossible, meets}
use Rattle.clock.specs.Laws.{NoSign, IsTime, LimitsFit, TimesFit, Limited, KeepsTo}
use Rattle.clock.proofs.Times.{improper-is}
use Rattle.clock.proofs.Order.{NotBelow, proper, le_on, not-lt, le-unless-lt}
use Rattle.clock.proofs.Rounded.{not-below}

-- ---- times

pub proper-time : (x : Float) → improper x ≡ false → IsTime x
proper-time x h =
    record {
      is_finite = (proper x h).0;
      no_less = passes (le zero_time x) (and-true (le zero_time x) (lt x (inf false)) (not-false _ (sym (improper-is x) ∙ h))).0;
    }

pub time-proper : (x : Float) → IsTime x → improper x ≡ false
unfolding lt
time-proper nan t = absurd t.is_finite
time-proper (inf s) t = absurd t.is_finite
time-proper (fin s m e) t = improper-is (fin s m e) ∙ ap (λ (least : Bool). not (least && true)) (is_true (le zero_time (fin s m e)) t.no_less)

pub time-up : (x : Float) → IsTime x → NotBelow x
time-up x t = (proper x (time-proper x t)).1

-- ---- a period above 0

-- ±a is 0 where it is not above 0, and then equals a zero b.
levelled : (s : Bool) (a b : ℕ) → (s ≡ true → a ≡ 0) → b ≡ 0 → below false b s a ≡ false → level s a false b ≡ true
levelled true a b zs e h =
    let none = zs refl in
    rw (eq-eqb a b (omega arith), eq-eqb a 0 (omega arith))
levelled false a b zs e h =
    let most = ltb-false b a h in
    rw (eq-eqb a b (omega arith))

above_zero : (x : Float) → IsTime x → eq x zero_time ≡ false → T (lt zero_time x)
unfolding lt eq
above_zero nan t h = absurd t.is_finite
above_zero (inf s) t h = absurd t.is_finite
above_zero (fin s m e) t h = go (below false (0 * down e) s (m * up e * 1)) refl
  where
    none : s ≡ true → m * up e * 1 ≡ 0
    none z = ap (λ (k : ℕ). k * 1) (time-up (fin s m e) t z)

    go : (above : Bool) → below false (0 * down e) s (m * up e * 1) ≡ above → T above
    go true e' = tt
    go false e' = absurd (true≢false (sym (levelled s (m * up e * 1) (0 * down e) none (zero-mul (down e)) e') ∙ h))

zero-not-above : (x : Float) → T (lt zero_time x) → eq x zero_time ≡ false
unfolding lt eq
zero-not-above nan h = refl
zero-not-above (inf s) h = refl
zero-not-above (fin true m e) h = absurd h
zero-not-above (fin false m e) h =
    let less = ltb-true (0 * down e) (m * up e * 1) (is_true _ h) in
    rw (ne_eqb (m * up e * 1) (0 * down e) (omega arith))

-- ---- limits

pub limits-fit : (deadline : Deadline) → limits_impossible deadline ≡ false → LimitsFit deadline
limits-fit None h = tt
limits-fit (Latest latest) h = proper-time latest h
limits-fit (Window earliest latest) h =
    let parts = or-false (improper earliest || improper latest) (lt latest earliest) h in
    let both = or-false (improper earliest) (improper latest) parts.0 in
    let early = proper earliest both.0 in
    let late = proper latest both.1 in
    (proper-time earliest both.0, (proper-time latest both.1, le-unless-lt latest earliest late.1 early.1 late.0 early.0 parts.1))

fit-limits : (deadline : Deadline) → LimitsFit deadline → limits_impossible deadline ≡ false
fit-limits None h = refl
fit-limits (Latest latest) h = time-proper latest h
fit-limits (Window earliest latest) h =
    let early = h.0 in
    let late = h.1.0 in
    false-or (improper earliest || improper latest) (lt latest earliest) (false-or (improper earliest) (improper latest) (time-proper earliest early) (time-proper latest late))
    (not-lt latest earliest (time-up latest late) (time-up earliest early) late.is_finite early.is_finite h.1.1)

-- ---- refusal 18

module _ (sheet : ClockSheet) (deadline : Deadline) where
  pub times-fit : impossible sheet deadline ≡ false → TimesFit sheet deadline
  times-fit h =
      let parts = or-false (eq sheet.period zero_time || improper sheet.period || improper sheet.overhead) (limits_impossible deadline) h in
      let sheets = or-false (eq sheet.period zero_time || improper sheet.period) (improper sheet.overhead) parts.0 in
      let periods = or-false (eq sheet.period zero_time) (improper sheet.period) sheets.0 in
      let period = proper-time sheet.period periods.1 in
      record {
        period = period;
        period_above = above_zero sheet.period period periods.0;
        overhead = proper-time sheet.overhead sheets.1;
        limits = limits-fit deadline parts.1;
      }

  pub fit-times : TimesFit sheet deadline → impossible sheet deadline ≡ false
  fit-times fit =
      false-or (eq sheet.period zero_time || improper sheet.period || improper sheet.overhead) (limits_impossible deadline)
      (false-or (eq sheet.period zero_time || improper sheet.period) (improper sheet.overhead)
      (false-or (eq sheet.period zero_time) (improper sheet.period) (zero-not-above sheet.period fit.period_above) (time-proper sheet.period fit.period))
      (time-proper sheet.overhead fit.overhead))
      (fit-limits deadline fit.limits)

-- ---- what meets a deadline

-- Two figures that keep to a deadline meet it.
pub both_meet : (deadline : Deadline) (low high : Float) → KeepsTo deadline low → KeepsTo deadline high → meets deadline low high ≡ true
both_meet None low high k l = refl
both_meet (Latest latest) low high k l = is_true (le high latest) l
both_meet (Window earliest latest) low high k l = true-and (le earliest low) (le high latest) (is_true (le earliest low) k.0) (is_true (le high latest) l.1)

-- A high figure that meets a latest time is finite.
late-finite : (high latest : Float) → NoSign high → T (finite latest) → T (le high latest) → T (finite high)
unfolding le lt eq
late-finite nan latest p g h = absurd p
late-finite (inf true) latest p g h = absurd (true≢false p)
late-finite (inf false) nan p g h = absurd g
late-finite (inf false) (inf t) p g h = absurd g
late-finite (inf false) (fin t n d) p g h = absurd h
late-finite (fin s m e) latest p g h = tt

pub met_finite : (deadline : Deadline) (low high : Float) → LimitsFit deadline → Limited deadline → NoSign high → meets deadline low high ≡ true → T (finite high)
met_finite None low high fit has p met = absurd has
met_finite (Latest latest) low high fit has p met = late-finite high latest p fit.is_finite (passes (le high latest) met)
met_finite (Window earliest latest) low high fit has p met =
    late-finite high latest p fit.1.0.is_finite (passes (le high latest) (and-true (le earliest low) (le high latest) met).1)

-- ---- what lies between

pub between-keeps : (deadline : Deadline) (low figure high : Float) → LimitsFit deadline → NoSign low → NoSign figure → NoSign high → T (le low figure) → T (le figure high)
    → meets deadline low high ≡ true → KeepsTo deadline figure
between-keeps None low figure high fit p q r h k met = tt
between-keeps (Latest latest) low figure high fit p q r h k met =
    le_on figure high latest (not-below figure q) (not-below high r) (time-up latest fit) k (passes (le high latest) met)
between-keeps (Window earliest latest) low figure high fit p q r h k met =
    let both = and-true (le earliest low) (le high latest) met in (
      le_on earliest low figure (time-up earliest fit.0) (not-below low p) (not-below figure q) (passes (le earliest low) both.0) h,
      le_on figure high latest (not-below figure q) (not-below high r) (time-up latest fit.1.0) k (passes (le high latest) both.1),
    )
