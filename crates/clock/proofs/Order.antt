-- Floats that are not below zero, the infinity among them: of finite ones the order is that of the fractions that they are, and the order of all
-- goes on.
use mathlib.Core.Path.{◌≡◌, refl, sym, ap}
use mathlib.Core.Bool.{Bool, true, false, ◌&&◌, ◌||◌, true≢false}
use Prim.Native.Nat.{ℕ, ◌+◌, ◌*◌, ◌≤◌}
use native.Mathlib.Nat.{le_of_eq, zero-mul, le_of_lt}
use native.Mathlib.Omega.{arith}
use borrow.Author.Tests.{ltb-true, ltb-false, eqb-true, le-ltb, eq-eqb}
use lib.Dec.{T, ltb, eqb}
use lib.Ieee.{Float, nan, inf, fin, up, down, lt, eq, le, below, level}
use lib.Ieee.Scale.{finite}
use lib.Ieee.Positive.{num, den, den_pos, through}
use Rattle.clock.specs.Clock.{improper}

-- Not a number below zero, and a number. A zero may have either sign.
abbrev pub NotBelow : Float → Type 0
NotBelow nan = ⊥
NotBelow (inf s) = s ≡ false
NotBelow (fin s m e) = s ≡ true → m * up e ≡ 0

-- ---- finite ones, by sign and size: ±a ≤ ±b

abbrev le_by : Bool → ℕ → Bool → ℕ → Bool
le_by s a t b = below s a t b || level s a t b

sizes-le : (s t : Bool) (a b : ℕ) → (s ≡ true → a ≡ 0) → (t ≡ true → b ≡ 0) → T (le_by s a t b) → a ≤ b
sizes-le true t a b zs zt h = let none = zs refl in omega arith
sizes-le false true a b zs zt h = go (eqb a b) refl h
  where
    go : (same : Bool) → eqb a b ≡ same → T (same && eqb a 0) → a ≤ b
    go true e g = le_of_eq (eqb-true a b e)
    go false e g = absurd g
sizes-le false false a b zs zt h = go (ltb a b) (eqb a b) refl refl h
  where
    go : (less same : Bool) → ltb a b ≡ less → eqb a b ≡ same → T (less || (same && true)) → a ≤ b
    go true same d e g = le_of_lt (ltb-true a b d)
    go false true d e g = le_of_eq (eqb-true a b e)
    go false false d e g = absurd g

le-sizes : (s t : Bool) (a b : ℕ) → (s ≡ true → a ≡ 0) → (t ≡ true → b ≡ 0) → a ≤ b → T (le_by s a t b)
le-sizes false false a b zs zt h = go (ltb a b) refl
  where
    go : (less : Bool) → ltb a b ≡ less → T (less || (eqb a b && true))
    go true d = tt
    go false d = let most = ltb-false a b d in rw (eq-eqb a b (omega arith)) tt
le-sizes false true a b zs zt h =
    let none = zt refl in
    rw (eq-eqb a b (omega arith), eq-eqb a 0 (omega arith)) tt
le-sizes true false a b zs zt h = go (ltb 0 (a + b)) refl
  where
    go : (less : Bool) → ltb 0 (a + b) ≡ less → T (less || (eqb a b && eqb a 0))
    go true d = tt
    go false d = let most = ltb-false 0 (a + b) d in rw (eq-eqb a b (omega arith), eq-eqb a 0 (omega arith)) tt
le-sizes true true a b zs zt h = go (ltb b a)
  where
    same : eqb a b ≡ true
    same = let none = zs refl in let other = zt refl in eq-eqb a b (omega arith)

    go : (less : Bool) → T (less || (eqb a b && true))
    go true = tt
    go false = rw same tt

not-below-sizes : (s t : Bool) (a b : ℕ) → (s ≡ true → a ≡ 0) → (t ≡ true → b ≡ 0) → below s a t b ≡ false → b ≤ a
not-below-sizes false false a b zs zt h = ltb-false a b h
not-below-sizes false true a b zs zt h = let none = zt refl in omega arith
not-below-sizes true false a b zs zt h = let most = ltb-false 0 (a + b) h in omega arith
not-below-sizes true true a b zs zt h = let none = zt refl in omega arith

sizes-not-below : (s t : Bool) (a b : ℕ) → (s ≡ true → a ≡ 0) → (t ≡ true → b ≡ 0) → b ≤ a → below s a t b ≡ false
sizes-not-below false false a b zs zt h = le-ltb a b h
sizes-not-below false true a b zs zt h = refl
sizes-not-below true false a b zs zt h = let none = zs refl in le-ltb 0 (a + b) (omega arith)
sizes-not-below true true a b zs zt h = let none = zs refl in le-ltb b a (omega arith)

-- ---- the order of fractions

scaled-none : (a c : ℕ) → a ≡ 0 → a * c ≡ 0
scaled-none a c e = rw (e, zero-mul c)

pub le-cross : (x y : Float) → NotBelow x → NotBelow y → T (finite x) → T (finite y) → T (le x y) → num x * den y ≤ num y * den x
unfolding le lt eq
le-cross nan y p q f g h = absurd f
le-cross (inf s) y p q f g h = absurd f
le-cross (fin s m e) nan p q f g h = absurd g
le-cross (fin s m e) (inf t) p q f g h = absurd g
le-cross (fin s m e) (fin t n d) p q f g h =
    sizes-le s t (m * up e * down d) (n * up d * down e) (λ z. scaled-none (m * up e) (down d) (p z)) (λ z. scaled-none (n * up d) (down e) (q z)) h

pub cross-le : (x y : Float) → NotBelow x → NotBelow y → T (finite x) → T (finite y) → num x * den y ≤ num y * den x → T (le x y)
unfolding le lt eq
cross-le nan y p q f g h = absurd f
cross-le (inf s) y p q f g h = absurd f
cross-le (fin s m e) nan p q f g h = absurd g
cross-le (fin s m e) (inf t) p q f g h = absurd g
cross-le (fin s m e) (fin t n d) p q f g h =
    le-sizes s t (m * up e * down d) (n * up d * down e) (λ z. scaled-none (m * up e) (down d) (p z)) (λ z. scaled-none (n * up d) (down e) (q z)) h

pub not-lt : (x y : Float) → NotBelow x → NotBelow y → T (finite x) → T (finite y) → T (le y x) → lt x y ≡ false
unfolding lt
not-lt nan y p q f g h = absurd f
not-lt (inf s) y p q f g h = absurd f
not-lt (fin s m e) nan p q f g h = absurd g
not-lt (fin s m e) (inf t) p q f g h = absurd g
not-lt (fin s m e) (fin t n d) p q f g h =
    sizes-not-below s t (m * up e * down d) (n * up d * down e) (λ z. scaled-none (m * up e) (down d) (p z)) (λ z. scaled-none (n * up d) (down e) (q z))
    (le-cross (fin t n d) (fin s m e) q p tt tt h)

pub le-unless-lt : (x y : Float) → NotBelow x → NotBelow y → T (finite x) → T (finite y) → lt x y ≡ false → T (le y x)
unfolding lt
le-unless-lt nan y p q f g h = absurd f
le-unless-lt (inf s) y p q f g h = absurd f
le-unless-lt (fin s m e) nan p q f g h = absurd g
le-unless-lt (fin s m e) (inf t) p q f g h = absurd g
le-unless-lt (fin s m e) (fin t n d) p q f g h =
    cross-le (fin t n d) (fin s m e) q p tt tt
    (not-below-sizes s t (m * up e * down d) (n * up d * down e) (λ z. scaled-none (m * up e) (down d) (p z)) (λ z. scaled-none (n * up d) (down e) (q z)) h)

-- ---- the infinity is above all

pub le-infinity : (x : Float) → NotBelow x → T (le x (inf false))
unfolding le lt eq
le-infinity nan p = absurd p
le-infinity (inf false) p = tt
le-infinity (inf true) p = absurd (true≢false p)
le-infinity (fin s m e) p = tt

-- What is no smaller than the infinity is the infinity.
pub from-infinity : (y : Float) → NotBelow y → T (le (inf false) y) → y ≡ inf false
unfolding le lt eq
from-infinity nan p h = absurd p
from-infinity (inf false) p h = refl
from-infinity (inf true) p h = absurd (true≢false p)
from-infinity (fin s m e) p h = absurd h

pub le_on : (x y z : Float) → NotBelow x → NotBelow y → NotBelow z → T (le x y) → T (le y z) → T (le x z)
le_on x y (inf false) p q r h k = le-infinity x p
le_on x y (inf true) p q r h k = absurd (true≢false r)
le_on x y nan p q r h k = absurd r
le_on x nan (fin s m e) p q r h k = absurd q
le_on x (inf true) (fin s m e) p q r h k = absurd (true≢false q)
le_on x (inf false) (fin s m e) p q r h k = let z : ◌≡◌ {A = Bool} true false = ap finite (from-infinity (fin s m e) r k) in absurd (true≢false z)
le_on nan (fin t n d) (fin s m e) p q r h k = absurd p
le_on (inf true) (fin t n d) (fin s m e) p q r h k = absurd (true≢false p)
le_on (inf false) (fin t n d) (fin s m e) p q r h k = let z : ◌≡◌ {A = Bool} true false = ap finite (from-infinity (fin t n d) q h) in absurd (true≢false z)
le_on (fin u l c) (fin t n d) (fin s m e) p q r h k =
    cross-le (fin u l c) (fin s m e) p r tt tt
    (through (l * up c) (n * up d) (m * up e) (down c) (down d) (down e) (den_pos (fin t n d))
    (le-cross (fin u l c) (fin t n d) p q tt tt h) (le-cross (fin t n d) (fin s m e) q r tt tt k))

-- ---- times

-- What is no improper time is finite, and not below zero.
pub proper : (x : Float) → improper x ≡ false → T (finite x) × NotBelow x
unfolding improper lt
proper nan h = absurd (true≢false h)
proper (inf s) h = absurd (true≢false h)
proper (fin false m e) h = (tt, λ z. absurd (true≢false (sym z)))
proper (fin true m e) h = (tt, λ z. let none = ltb-false 0 (m * up e * 1 + 0 * down e) h in omega arith)
