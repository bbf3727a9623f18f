-- Numbers of a list that are all in a range are so one by one; and multipliers that fit add up to no more than the most, however many are taken.
use Prim.Native.Nat.{ℕ, zero, suc, ◌+◌, ◌*◌, ◌≤◌, ◌<◌}
use mathlib.Core.Bool.{Bool, true, false, ◌&&◌, true≢false}
use mathlib.Core.List.{List}
use mathlib.Core.Path.{◌≡◌, refl, sym, ◌∙◌}
use native.Mathlib.Decide.{ℕ_discrete}
use native.Mathlib.Nat.{mul-le-mul_left, mul-le-mul_right, add-mul}
use native.Mathlib.Omega.{arith}
use borrow.Author.Tests.{leb-true, lt-leb, ne_eqb}
use lib.Dec.{leb, eqb}
use lib.IntN.{ℤ, pos}
use lib.ListN.{get_or, length}
use mir.Syntax.{w64}
use mir.Val.{SFits, to_z, of_z}
use Rattle.std.proofs.lemmas.Int.{to_z-of_z}
use Rattle.lists.specs.Choice.{every}
use Rattle.lists.specs.Lists.{sum_of}
use Rattle.lists.proofs.Choice.{and-true, every-all}
use Rattle.facts.specs.Parts.{above, below}
use Rattle.facts.specs.Certificate.{most_multipliers, most_coefficient, all_within, multipliers_fit}
use Rattle.facts.specs.Inner.{most_weighed, Weighable}

-- ---- one number of a list

module _ (most : ℕ) (numbers : List ℤ) (fit : all_within most numbers ≡ true) (i : ℕ) (inside : i < length numbers) where
  both-within : (leb (above (get_or numbers i (pos 0))) most ≡ true) × (leb (below (get_or numbers i (pos 0))) most ≡ true)
  both-within =
      and-true (leb (above (get_or numbers i (pos 0))) most) (leb (below (get_or numbers i (pos 0))) most)
      (every-all (length numbers) (λ k. leb (above (get_or numbers k (pos 0))) most && leb (below (get_or numbers k (pos 0))) most) fit i inside)

  pub above_within : above (get_or numbers i (pos 0)) ≤ most
  above_within = leb-true _ _ both-within.0

  pub below-within : below (get_or numbers i (pos 0)) ≤ most
  below-within = leb-true _ _ both-within.1

-- ---- sums

-- A sum of fewer terms is no more.
pub sum-fewer : (n m : ℕ) (f : ℕ → ℕ) → n ≤ m → sum_of n f ≤ sum_of m f
sum-fewer n zero f h = rw (none n h) (omega arith)
  where
    none : (n : ℕ) → n ≤ 0 → n ≡ 0
    none n h = omega arith
sum-fewer n (suc m) f h = go (ℕ_discrete n (suc m)) (sum-fewer n m f)
  where
    go : Dec (n ≡ suc m) → (n ≤ m → sum_of n f ≤ sum_of m f) → sum_of n f ≤ sum_of (suc m) f
    go (yes e) rest = rw e (omega arith)
    go (no e) rest = omega (arith, rest (omega arith))

-- Numbers that are no more than the most, each times a weight, add up to no more than all weights times the most.
pub weights-most : (n most : ℕ) (weight part : ℕ → ℕ) → ((f : ℕ) → f < n → part f ≤ most) → sum_of n (λ f. weight f * part f) ≤ sum_of n weight * most
weights-most zero most weight part h = omega arith
weights-most (suc n) most weight part h =
    let rest = weights-most n most weight part (λ f l. h f (omega arith)) in
    let last = mul-le-mul_left (weight n) (h n (omega arith)) in
    let both = add-mul (sum_of n weight) (weight n) most in
    omega arith

-- ---- multipliers

module _ (multipliers : List ℤ) (fit : multipliers_fit multipliers ≡ true) where
  abbrev weight : ℕ → ℕ
  weight f = above (get_or multipliers f (pos 0))

  parts-fit : (every (length multipliers) (λ f. eqb (below (get_or multipliers f (pos 0))) 0) ≡ true) × (leb (sum_of (length multipliers) weight) most_multipliers ≡ true)
  parts-fit = and-true _ _ fit

  -- Of the first ones.
  pub multipliers_most : (n : ℕ) → n ≤ length multipliers → sum_of n weight ≤ most_multipliers
  multipliers_most n h = omega (arith, sum-fewer n (length multipliers) weight h, leb-true (sum_of (length multipliers) weight) most_multipliers parts-fit.1)

-- Where one is below 0, or so many are more than the most, they do not fit.
module _ (multipliers : List ℤ) (f : ℕ) (inside : f < length multipliers) where
  abbrev plain : ℕ → Bool
  plain k = eqb (below (get_or multipliers k (pos 0))) 0

  abbrev all : Bool
  all = leb (sum_of (length multipliers) (λ k. above (get_or multipliers k (pos 0)))) most_multipliers

  pub negative-unfit : 0 < below (get_or multipliers f (pos 0)) → false ≡ multipliers_fit multipliers
  negative-unfit h = go (every (length multipliers) plain) refl
    where
      go : (t : Bool) → every (length multipliers) plain ≡ t → false ≡ (t && all)
      go true e = absurd (true≢false (sym (every-all (length multipliers) plain e f inside) ∙ ne_eqb (below (get_or multipliers f (pos 0))) 0 (λ q. omega arith)))
      go false e = refl

  pub over-unfit : most_multipliers < sum_of f (λ k. above (get_or multipliers k (pos 0))) + above (get_or multipliers f (pos 0)) → false ≡ multipliers_fit multipliers
  over-unfit h =
      let more = sum-fewer (suc f) (length multipliers) (λ k. above (get_or multipliers k (pos 0))) (omega arith) in
      let over : all ≡ false = lt-leb (sum_of (length multipliers) (λ k. above (get_or multipliers k (pos 0)))) most_multipliers (omega arith) in
      rw over (last-false (every (length multipliers) plain))
    where
      last-false : (t : Bool) → false ≡ (t && false)
      last-false true = refl
      last-false false = refl

-- ---- what multipliers times numbers come to

module _ (multipliers numbers : List ℤ) (stride start : ℕ) (able : Weighable multipliers numbers stride start) (part : ℤ → ℕ)
    (within : (i : ℕ) → i < length numbers → part (get_or numbers i (pos 0)) ≤ most_coefficient) where
  abbrev terms : ℕ → ℕ
  terms f = above (get_or multipliers f (pos 0)) * part (get_or numbers (f * stride + start) (pos 0))

  pub weighed-most : (n : ℕ) → n ≤ length multipliers → sum_of n terms ≤ most_weighed
  weighed-most n h =
      let all = multipliers_most multipliers able.multipliers-fit n h in
      let most = weights-most n most_coefficient (λ f. above (get_or multipliers f (pos 0))) (λ f. part (get_or numbers (f * stride + start) (pos 0))) (λ f l. within (f * stride + start) (able.reaches f (omega arith))) in
      omega (arith, most, mul-le-mul_right most_coefficient all)

  -- What comes to it next, of two numbers as a loop has read them, leaves it as small.
  pub weighed-next : (f weight value : ℕ) → f < length multipliers → SFits w64 (get_or multipliers f (pos 0)) → SFits w64 (get_or numbers (f * stride + start) (pos 0))
      → weight ≡ above (to_z w64 (of_z w64 (get_or multipliers f (pos 0)))) → value ≡ part (to_z w64 (of_z w64 (get_or numbers (f * stride + start) (pos 0))))
      → sum_of f terms + weight * value ≤ most_weighed
  weighed-next f weight value inside fits fits_too one other =
      rw (one, other, to_z-of_z w64 (get_or multipliers f (pos 0)) fits, to_z-of_z w64 (get_or numbers (f * stride + start) (pos 0)) fits_too) (weighed-most (suc f) (omega arith))
