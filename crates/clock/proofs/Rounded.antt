-- The product and the sum of a figure, as fractions that are rounded once each; and that what is rounded so is not below zero.
use mathlib.Core.Path.{◌≡◌, refl, sym, ap, subst, ◌∙◌}
use mathlib.Core.Bool.{Bool, true, false, cond, true≢false}
use Prim.Native.Nat.{ℕ, zero, suc, ◌+◌, ◌-◌, ◌*◌, ◌^◌, ◌≤◌, ◌<◌}
use native.Mathlib.Nat.{mul-pos, one-mul, mul-mul-mul_comm, zero-mul}
use native.Mathlib.Omega.{arith}
use borrow.Author.Tests.{le-ltb}
use lib.IntN.{ℤ, pos}
use lib.Dec.{T, ltb}
use lib.Ieee.{Float, nan, inf, fin, Format, binary64, prec, emax, low, up, down, odd, units, round, of_int, mul, add, sum}
use lib.Ieee.Exact.{HasValue}
use lib.Ieee.Fits.{down_pos, round_is}
use lib.Ieee.Back.{round_whole}
use lib.Ieee.Scale.{round_same, finite}
use lib.Ieee.Positive.{num, den}
use Rattle.clock.specs.Laws.{NoSign, rounded_sum}
use Rattle.clock.proofs.Order.{NotBelow}

-- ---- what is rounded without a sign has none

pub not-below : (x : Float) → NoSign x → NotBelow x
not-below nan p = p
not-below (inf s) p = p
not-below (fin s m e) p = λ z. absurd (true≢false (sym z ∙ p))

odd-no-sign : (d q k l : ℕ) → NoSign (odd d false q k l)
unfolding odd
odd-no-sign d zero k l = refl
odd-no-sign d (suc q) k l = refl

units-no-sign : (f : Format) (q k : ℕ) → NoSign (units f false q k)
unfolding units
units-no-sign f q k = go (ltb (q * 2 ^ k) (2 ^ (low f + suc (emax f))))
  where
    go : (small : Bool) → NoSign (cond small (odd (suc (prec f)) false q k (low f)) (inf false))
    go true = odd-no-sign (suc (prec f)) q k (low f)
    go false = refl

pub round-no-sign : (f : Format) (a c : ℕ) → NoSign (round f false a c)
round-no-sign f a c = subst NoSign (sym (round_is f false a c)) (units-no-sign f _ _)

-- ---- the product of a whole number with a period

-- Of two values without a sign, by any fractions that they equal.
pub product_is : (f : Format) (x y : Float) (a c b d : ℕ) → 0 < c → 0 < d → HasValue x false a c → HasValue y false b d → mul f x y ≡ round f false (a * b) (c * d)
unfolding mul
product_is f nan y a c b d C D h k = absurd h
product_is f (inf s) y a c b d C D h k = absurd h
product_is f (fin true m e) y a c b d C D h k = absurd (true≢false h.0)
product_is f (fin false m e) nan a c b d C D h k = absurd k
product_is f (fin false m e) (inf t) a c b d C D h k = absurd k
product_is f (fin false m e) (fin true n g) a c b d C D h k = absurd (true≢false k.0)
product_is f (fin false m e) (fin false n g) a c b d C D h k =
    round_same f false (m * up e * (n * up g)) (down e * down g) (a * b) (c * d) (mul-pos (down_pos e) (down_pos g)) (mul-pos C D)
    (mul-mul-mul_comm (m * up e) (n * up g) c d ∙ (λ i. h.1 i * k.1 i) ∙ mul-mul-mul_comm a (down e) b (down g))

-- A whole number of at most `prec` digits is a float exactly.
pub whole_is : (f : Format) (n : ℕ) → n ≤ 2 ^ prec f → HasValue (of_int f (pos n)) false n 1
unfolding of_int
whole_is f n h = round_whole f false n h

pub whole-product : (f : Format) (n : ℕ) (y : Float) (b d : ℕ) → n ≤ 2 ^ prec f → 0 < d → HasValue y false b d → mul f (of_int f (pos n)) y ≡ round f false (n * b) d
whole-product f n y b d h D k =
    product_is f (of_int f (pos n)) y n 1 b d (omega arith) D (whole_is f n h) k ∙ ap (λ (c : ℕ). round f false (n * b) c) (one-mul d)

-- ---- the sum with a time

sum_both : (f : Format) (a b c : ℕ) → sum f false a false b c ≡ round f false (a + b) c
unfolding sum
sum_both f a b c = refl

-- A zero that has a sign adds nothing.
sum_none : (f : Format) (a b c : ℕ) → b ≡ 0 → sum f false a true b c ≡ round f false (a + b) c
unfolding sum
sum_none f a b c e =
    let least : b ≤ a = omega arith in
    let same : a - b ≡ a + b = omega arith in
    (λ i. cond (le-ltb a b least i) (round f true (b - a) c) (round f false (a - b) c)) ∙ ap (λ (n : ℕ). round f false n c) same

-- The sum of two that are finite and not below zero, the first without a sign.
pub sum_is : (f : Format) (m : ℕ) (e : ℤ) (y : Float) → NotBelow y → T (finite y)
    → add f (fin false m e) y ≡ round f false (m * up e * den y + num y * down e) (down e * den y)
unfolding add
sum_is f m e nan p g = absurd p
sum_is f m e (inf t) p g = absurd g
sum_is f m e (fin false n d) p g = sum_both f (m * up e * down d) (n * up d * down e) (down e * down d)
sum_is f m e (fin true n d) p g =
    sum_none f (m * up e * down d) (n * up d * down e) (down e * down d) (ap (λ (k : ℕ). k * down e) (p refl) ∙ zero-mul (down e))

pub infinite-sum : (f : Format) (y : Float) → NotBelow y → T (finite y) → add f (inf false) y ≡ inf false
unfolding add
infinite-sum f nan p g = absurd p
infinite-sum f (inf t) p g = absurd g
infinite-sum f (fin s n d) p g = refl

-- So a sum is the rounded one.
pub sum-rounded : (x y : Float) → NoSign x → NotBelow y → T (finite y) → add binary64 x y ≡ rounded_sum x y
sum-rounded nan y s p g = absurd s
sum-rounded (inf false) y s p g = infinite-sum binary64 y p g
sum-rounded (inf true) y s p g = absurd (true≢false s)
sum-rounded (fin false m e) y s p g = sum_is binary64 m e y p g
sum-rounded (fin true m e) y s p g = absurd (true≢false s)

-- The sum of what has no sign with a time has none.
pub sum-no-sign : (f : Format) (x y : Float) → NoSign x → NotBelow y → T (finite y) → NoSign (add f x y)
sum-no-sign f nan y s p g = absurd s
sum-no-sign f (inf false) y s p g = subst NoSign (sym (infinite-sum f y p g)) refl
sum-no-sign f (inf true) y s p g = absurd (true≢false s)
sum-no-sign f (fin false m e) y s p g = subst NoSign (sym (sum_is f m e y p g)) (round-no-sign f _ _)
sum-no-sign f (fin true m e) y s p g = absurd (true≢false s)
