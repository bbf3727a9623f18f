-- The figure of a larger total is no smaller, whatever the sheet, as long as the times fit. Rounding keeps the order, and so do product and sum.
use mathlib.Core.Path.{◌≡◌, refl, sym, ap, subst, ◌∙◌}
use mathlib.Core.Bool.{Bool, true, false, true≢false}
use Prim.Native.Nat.{ℕ, ◌+◌, ◌*◌, ◌^◌, ◌≤◌, ◌<◌}
use native.Mathlib.Nat.{le_trans, mul-pos, mul-le-mul_right, mul_assoc, mul_comm, mul_left_comm, add-mul}
use native.Mathlib.Omega.{arith}
use lib.IntN.{pos}
use lib.Dec.{T}
use lib.Ieee.{Float, nan, inf, fin, Format, prec, binary64, up, down, round, of_int, mul, add, lt, le}
use lib.Ieee.Exact.{HasValue}
use lib.Ieee.Fits.{down_pos}
use lib.Ieee.Order.{round_mono}
use lib.Ieee.Scale.{finite}
use lib.Ieee.Positive.{num, den, den_pos}
use Rattle.clock.specs.declared.ClockSheet.{ClockSheet}
use Rattle.clock.specs.declared.Deadline.{Deadline}
use Rattle.clock.specs.Clock.{zero_time, figure_of}
use Rattle.clock.specs.Laws.{NoSign, TimesFit, rounded_sum, twice_rounded}
use Rattle.clock.proofs.Order.{NotBelow, le-cross, le-infinity, from-infinity}
use Rattle.clock.proofs.Fitting.{time-up}
use Rattle.clock.proofs.Rounded.{not-below, round-no-sign, whole-product, sum_is, infinite-sum, sum-rounded, sum-no-sign}

-- A period above zero is the fraction that it is, without a sign.
above-value : (x : Float) → T (finite x) → T (lt zero_time x) → HasValue x false (num x) (den x)
unfolding lt
above-value nan f h = absurd f
above-value (inf s) f h = absurd f
above-value (fin false m e) f h = (refl, refl)
above-value (fin true m e) f h = absurd h

-- ---- the product and the sum rise

product-rises : (f : Format) (n m : ℕ) (y : Float) → n ≤ m → m ≤ 2 ^ prec f → HasValue y false (num y) (den y) → T (le (mul f (of_int f (pos n)) y) (mul f (of_int f (pos m)) y))
product-rises f n m y h k v =
    subst (λ (x : Float). T (le x (mul f (of_int f (pos m)) y))) (sym (whole-product f n y (num y) (den y) (le_trans h k) (den_pos y) v))
    (subst (λ (x : Float). T (le (round f false (n * num y) (den y)) x)) (sym (whole-product f m y (num y) (den y) k (den_pos y) v))
    (round_mono f (n * num y) (den y) (m * num y) (den y) (den_pos y) (den_pos y) (mul-le-mul_right (den y) (mul-le-mul_right (num y) h))))

product-no-sign : (f : Format) (n : ℕ) (y : Float) → n ≤ 2 ^ prec f → HasValue y false (num y) (den y) → NoSign (mul f (of_int f (pos n)) y)
product-no-sign f n y h v = subst NoSign (sym (whole-product f n y (num y) (den y) h (den_pos y) v)) (round-no-sign f _ _)

-- X / x + O / o ≤ Y / y + O / o where X / x ≤ Y / y
cross-rises : (X x Y y O o : ℕ) → X * y ≤ Y * x → (X * o + O * x) * (y * o) ≤ (Y * o + O * y) * (x * o)
cross-rises X x Y y O o h =
    let first : X * o * (y * o) ≤ Y * o * (x * o) = simp (mul_assoc, mul_left_comm) (simp (mul_assoc, mul_comm) at (mul-le-mul_right (o * o) h)) in
    let second : O * x * (y * o) ≡ O * y * (x * o) = simp (mul_assoc, mul_comm, mul_left_comm) in
    omega (arith, first, second, add-mul (X * o) (O * x) (y * o), add-mul (Y * o) (O * y) (x * o))

sum-rises : (f : Format) (x y o : Float) → NoSign x → NoSign y → NotBelow o → T (finite o) → T (le x y) → T (le (add f x o) (add f y o))
sum-rises f x nan o p q r g h = absurd q
sum-rises f x (inf true) o p q r g h = absurd (true≢false q)
sum-rises f x (inf false) o p q r g h =
    subst (λ (z : Float). T (le (add f x o) z)) (sym (infinite-sum f o r g)) (le-infinity (add f x o) (not-below (add f x o) (sum-no-sign f x o p r g)))
sum-rises f nan (fin t n d) o p q r g h = absurd p
sum-rises f (inf true) (fin t n d) o p q r g h = absurd (true≢false p)
sum-rises f (inf false) (fin t n d) o p q r g h =
    let z : ◌≡◌ {A = Bool} true false = ap finite (from-infinity (fin t n d) (not-below (fin t n d) q) h) in
    absurd (true≢false z)
sum-rises f (fin true m e) (fin t n d) o p q r g h = absurd (true≢false p)
sum-rises f (fin false m e) (fin true n d) o p q r g h = absurd (true≢false q)
sum-rises f (fin false m e) (fin false n d) o p q r g h =
    subst (λ (z : Float). T (le z (add f (fin false n d) o))) (sym (sum_is f m e o r g))
    (subst (λ (z : Float). T (le (round f false (m * up e * den o + num o * down e) (down e * den o)) z)) (sym (sum_is f n d o r g))
    (round_mono f (m * up e * den o + num o * down e) (down e * den o) (n * up d * den o + num o * down d) (down d * den o)
    (mul-pos (down_pos e) (den_pos o)) (mul-pos (down_pos d) (den_pos o))
    (cross-rises (m * up e) (down e) (n * up d) (down d) (num o) (den o)
    (le-cross (fin false m e) (fin false n d) (not-below (fin false m e) p) (not-below (fin false n d) q) tt tt h))))

-- ---- the figure

module _ (sheet : ClockSheet) (deadline : Deadline) (fit : TimesFit sheet deadline) where
  period-is : HasValue sheet.period false (num sheet.period) (den sheet.period)
  period-is = above-value sheet.period fit.period.is_finite fit.period_above

  overhead-up : NotBelow sheet.overhead
  overhead-up = time-up sheet.overhead fit.overhead

  pub figure-no-sign : (total : ℕ) → total < 2 ^ 53 → NoSign (figure_of sheet total)
  unfolding figure_of
  figure-no-sign total h =
      sum-no-sign binary64 (mul binary64 (of_int binary64 (pos total)) sheet.period) sheet.overhead
      (product-no-sign binary64 total sheet.period (omega arith) period-is) overhead-up fit.overhead.is_finite

  pub figure-rounded : (total : ℕ) → total < 2 ^ 53 → figure_of sheet total ≡ twice_rounded sheet total
  unfolding figure_of
  figure-rounded total h =
      sum-rounded (mul binary64 (of_int binary64 (pos total)) sheet.period) sheet.overhead (product-no-sign binary64 total sheet.period (omega arith) period-is) overhead-up fit.overhead.is_finite
      ∙ ap (λ (x : Float). rounded_sum x sheet.overhead) (whole-product binary64 total sheet.period (num sheet.period) (den sheet.period) (omega arith) (den_pos sheet.period) period-is)

  pub figure-rises : (low high : ℕ) → low ≤ high → high < 2 ^ 53 → T (le (figure_of sheet low) (figure_of sheet high))
  unfolding figure_of
  figure-rises low high h k =
      sum-rises binary64 (mul binary64 (of_int binary64 (pos low)) sheet.period) (mul binary64 (of_int binary64 (pos high)) sheet.period) sheet.overhead
      (product-no-sign binary64 low sheet.period (omega arith) period-is) (product-no-sign binary64 high sheet.period (omega arith) period-is)
      overhead-up fit.overhead.is_finite
      (product-rises binary64 low high sheet.period h (omega arith) period-is)
