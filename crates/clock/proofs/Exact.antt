-- Where nothing is rounded: a whole number times a power of two that is at most 1, and the sum of that with a zero.
use mathlib.Core.Path.{◌≡◌, refl, sym, ap, subst, ◌∙◌}
use mathlib.Core.Bool.{true, false, ◌||◌, beq, true≢false}
use Prim.Native.Nat.{ℕ, suc, ◌+◌, ◌-◌, ◌*◌, ◌^◌, ◌≤◌, ◌<◌}
use native.Mathlib.Nat.{mul-pos, mul-one, mul_assoc, mul_right_comm, zero-mul, add-zero, le_of_lt, lt_of_lt_of_le}
use native.Mathlib.Omega.{arith}
use lib.IntN.{pos}
use borrow.Author.Tests.{eqb-true}
use lib.Dec.{T, eqb}
use lib.Pow.{pow-add, pow_pos, pow_mono, shl_lt}
use lib.Ieee.{Float, nan, inf, fin, Format, binary64, prec, emax, low, up, down, round, of_int, mul, add, eq, le}
use lib.Ieee.Exact.{HasValue, round_exact}
use lib.Ieee.Order.{transfer}
use lib.Ieee.Scale.{round_same, finite}
use lib.Ieee.Fits.{down_pos, reach}
use lib.Ieee.Positive.{num, den, den_pos}
use Rattle.clock.specs.declared.ClockSheet.{ClockSheet}
use Rattle.clock.specs.declared.Deadline.{Deadline}
use Rattle.clock.specs.declared.Deadline.TheVariants.{None, Latest, Window}
use Rattle.clock.specs.Clock.{zero_time, figure_of}
use Rattle.clock.specs.Laws.{IsTime, LimitsFit, KeepsTo, ExactSheet, KeepsExactly}
use Rattle.lists.proofs.Choice.{and-true}
use Rattle.clock.proofs.Order.{NotBelow, le-cross, cross-le}
use Rattle.clock.proofs.Fitting.{time-up}
use Rattle.clock.proofs.Rounded.{whole-product, sum_is}

-- n / 2 ^ j, with an n of at most `prec` digits, is a value of the format, and rounds to itself.
part-exact : (f : Format) (n j : ℕ) → n < 2 ^ prec f → j ≤ low f → HasValue (round f false n (2 ^ j)) false n (2 ^ j)
part-exact f n j h k = round_exact f false n (2 ^ j) n (low f - j) (pow_pos j) h small same
  where
    small : n * 2 ^ (low f - j) < 2 ^ (low f + suc (emax f))
    small = lt_of_lt_of_le (shl_lt (prec f) (low f - j) h) (pow_mono (omega (arith, reach f)))

    whole : low f ≡ (low f - j) + j
    whole = omega arith

    same : n * 2 ^ low f ≡ n * 2 ^ (low f - j) * 2 ^ j
    same = ap (λ (z : ℕ). n * 2 ^ z) whole ∙ ap (λ (z : ℕ). n * z) (pow-add 2 (low f - j) j) ∙ sym (mul_assoc n (2 ^ (low f - j)) (2 ^ j))

pub product-exact : (f : Format) (n j : ℕ) (y : Float) → n < 2 ^ prec f → j ≤ low f → HasValue y false 1 (2 ^ j) → HasValue (mul f (of_int f (pos n)) y) false n (2 ^ j)
product-exact f n j y h k v =
    subst (λ (x : Float). HasValue x false n (2 ^ j)) (sym (whole-product f n y 1 (2 ^ j) (le_of_lt h) (pow_pos j) v ∙ ap (λ (a : ℕ). round f false a (2 ^ j)) (mul-one n)))
    (part-exact f n j h k)

-- A zero of either sign.
abbrev Zero : Float → Type 0
Zero o = T (finite o) × (num o ≡ 0)

zero-up : (o : Float) → Zero o → NotBelow o
zero-up nan z = absurd z.0
zero-up (inf s) z = absurd z.0
zero-up (fin s m e) z = λ t. z.1

equal-zero : (o : Float) → eq o zero_time ≡ true → Zero o
unfolding eq
equal-zero nan h = absurd (true≢false (sym h))
equal-zero (inf s) h = absurd (true≢false (sym h))
equal-zero (fin s m e) h =
    let same = eqb-true (m * up e * 1) (0 * down e) (and-true (eqb (m * up e * 1) (0 * down e)) (beq s false || eqb (m * up e * 1) 0) h).0 in
    (tt, sym (mul-one (m * up e)) ∙ same ∙ zero-mul (down e))

sum-exact : (f : Format) (n j : ℕ) (x o : Float) → n < 2 ^ prec f → j ≤ low f → Zero o → HasValue x false n (2 ^ j) → HasValue (add f x o) false n (2 ^ j)
sum-exact f n j nan o h k z v = absurd v
sum-exact f n j (inf s) o h k z v = absurd v
sum-exact f n j (fin true m e) o h k z v = absurd (true≢false v.0)
sum-exact f n j (fin false m e) o h k z v =
    subst (λ (x : Float). HasValue x false n (2 ^ j)) (sym (sum_is f m e o (zero-up o z) z.0 ∙ same)) (part-exact f n j h k)
  where
    top : m * up e * den o + num o * down e ≡ m * up e * den o
    top = ap (λ (a : ℕ). m * up e * den o + a * down e) z.1 ∙ ap (λ (a : ℕ). m * up e * den o + a) (zero-mul (down e)) ∙ add-zero (m * up e * den o)

    crossed : (m * up e * den o + num o * down e) * 2 ^ j ≡ n * (down e * den o)
    crossed = ap (λ (a : ℕ). a * 2 ^ j) top ∙ mul_right_comm (m * up e) (den o) (2 ^ j) ∙ ap (λ (a : ℕ). a * den o) v.1 ∙ mul_assoc n (down e) (den o)

    same : round f false (m * up e * den o + num o * down e) (down e * den o) ≡ round f false n (2 ^ j)
    same = round_same f false _ (down e * den o) n (2 ^ j) (mul-pos (down_pos e) (den_pos o)) (pow_pos j) crossed

pub figure-exact : (sheet : ClockSheet) (j total : ℕ) → ExactSheet sheet j → total < 2 ^ 53 → HasValue (figure_of sheet total) false total (2 ^ j)
unfolding figure_of
figure-exact sheet j total exact h =
    let small : j ≤ low binary64 = omega (arith, exact.most) in
    sum-exact binary64 total j _ sheet.overhead h small (equal-zero sheet.overhead exact.overhead) (product-exact binary64 total j sheet.period h small exact.period)

-- ---- a figure that is a fraction

-- x, which is a / c, against a time.
value-cross : (x : Float) (a c : ℕ) → HasValue x false a c → T (finite x) × (NotBelow x × (num x * c ≡ a * den x))
value-cross nan a c v = absurd v
value-cross (inf s) a c v = absurd v
value-cross (fin true m e) a c v = absurd (true≢false v.0)
value-cross (fin false m e) a c v = (tt, ((λ z. absurd (true≢false (sym z))), v.1))

value-le : (x y : Float) (a c : ℕ) → 0 < c → HasValue x false a c → IsTime y → T (le x y) → a * den y ≤ num y * c
value-le x y a c C v t h =
    let cross = value-cross x a c v in
    transfer a (num y) c (den y) (num x) (num y) (den x) (den y) (den_pos x) (den_pos y) (sym cross.1.1) refl (le-cross x y cross.1.0 (time-up y t) cross.0 t.is_finite h)

le-value : (x y : Float) (a c : ℕ) → 0 < c → HasValue x false a c → IsTime y → T (le y x) → num y * c ≤ a * den y
le-value x y a c C v t h =
    let cross = value-cross x a c v in
    transfer (num y) a (den y) c (num y) (num x) (den y) (den x) (den_pos y) (den_pos x) refl (sym cross.1.1) (le-cross y x (time-up y t) cross.1.0 t.is_finite cross.0 h)

-- And the other way round.
value-ge : (x y : Float) (a c : ℕ) → 0 < c → HasValue x false a c → IsTime y → a * den y ≤ num y * c → T (le x y)
value-ge x y a c C v t h =
    let cross = value-cross x a c v in
    cross-le x y cross.1.0 (time-up y t) cross.0 t.is_finite (transfer (num x) (num y) (den x) (den y) a (num y) c (den y) C (den_pos y) cross.1.1 refl h)

ge-value : (x y : Float) (a c : ℕ) → 0 < c → HasValue x false a c → IsTime y → num y * c ≤ a * den y → T (le y x)
ge-value x y a c C v t h =
    let cross = value-cross x a c v in
    cross-le y x (time-up y t) cross.1.0 t.is_finite cross.0 (transfer (num y) (num x) (den y) (den x) (num y) a (den y) c (den_pos y) C refl cross.1.1 h)

pub exactly-keeps : (deadline : Deadline) (figure : Float) (n j : ℕ) → LimitsFit deadline → HasValue figure false n (2 ^ j) → KeepsExactly deadline n j → KeepsTo deadline figure
exactly-keeps None figure n j fit v k = tt
exactly-keeps (Latest latest) figure n j fit v k = value-ge figure latest n (2 ^ j) (pow_pos j) v fit k
exactly-keeps (Window earliest latest) figure n j fit v k =
    (ge-value figure earliest n (2 ^ j) (pow_pos j) v fit.0 k.0, value-ge figure latest n (2 ^ j) (pow_pos j) v fit.1.0 k.1)

pub keeps-exactly : (deadline : Deadline) (figure : Float) (n j : ℕ) → LimitsFit deadline → HasValue figure false n (2 ^ j) → KeepsTo deadline figure → KeepsExactly deadline n j
keeps-exactly None figure n j fit v k = tt
keeps-exactly (Latest latest) figure n j fit v k = value-le figure latest n (2 ^ j) (pow_pos j) v fit k
keeps-exactly (Window earliest latest) figure n j fit v k =
    (le-value figure earliest n (2 ^ j) (pow_pos j) v fit.0 k.0, value-le figure latest n (2 ^ j) (pow_pos j) v fit.1.0 k.1)
