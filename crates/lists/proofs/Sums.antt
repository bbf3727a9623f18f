-- Laws of a sum: a bound for it, what two sums say of their terms, and sums of one term alone.
use mathlib.Core.Bool.{Bool, true, false, cond}
use mathlib.Core.Path.{◌≡◌, refl, ap, sym, ◌∙◌}
use Prim.Native.Nat.{ℕ, zero, suc, ◌+◌, ◌*◌, ◌≤◌, ◌<◌}
use native.Mathlib.Decide.{ℕ_discrete}
use native.Mathlib.Nat.{zero-mul, one-mul}
use native.Mathlib.Omega.{arith}
use borrow.Author.Tests.{eq-eqb, ne_eqb}
use lib.Dec.{eqb}
use Rattle.lists.specs.Lists.{sum_of}

pub sum-most : (n most : ℕ) (f : ℕ → ℕ) → ((i : ℕ) → i < n → f i ≤ most) → sum_of n f ≤ n * most
sum-most zero most f h = omega arith
sum-most (suc n) most f h = let rest = sum-most n most f (λ i l. h i (omega arith)) in let last = h n (omega arith) in omega arith

pub sum-monotone : (n : ℕ) (f g : ℕ → ℕ) → ((i : ℕ) → i < n → f i ≤ g i) → sum_of n f ≤ sum_of n g
sum-monotone zero f g h = omega arith
sum-monotone (suc n) f g h = let rest = sum-monotone n f g (λ i l. h i (omega arith)) in let last = h n (omega arith) in omega arith

-- A term is no more than the sum.
pub sum-term : (n k : ℕ) (f : ℕ → ℕ) → k < n → f k ≤ sum_of n f
sum-term zero k f h = absurd (omega arith)
sum-term (suc n) k f h = go (ℕ_discrete k n) (sum-term n k f)
  where
    go : Dec (k ≡ n) → (k < n → f k ≤ sum_of n f) → f k ≤ sum_of n f + f n
    go (yes e) rest = rw e (omega arith)
    go (no e) rest = omega (arith, rest (omega arith))

-- A flag counts one at most, and so many flags no more than there are.
pub flag-most : (t : Bool) → cond t 1 0 ≤ 1
flag-most true = omega arith
flag-most false = omega arith

pub flags-most : (n : ℕ) (flag : ℕ → Bool) → sum_of n (λ i. cond (flag i) 1 0) ≤ n
flags-most n flag = omega (arith, sum-most n 1 (λ i. cond (flag i) 1 0) (λ i h. flag-most (flag i)))

-- Terms no less whose sum is no more are the same.
pub sum_same : (n : ℕ) (f g : ℕ → ℕ) → ((i : ℕ) → i < n → f i ≤ g i) → sum_of n g ≤ sum_of n f → (i : ℕ) → i < n → f i ≡ g i
sum_same zero f g h l i k = absurd (omega arith)
sum_same (suc n) f g h l i k = go (ℕ_discrete i n) (sum_same n f g (λ j m. h j (omega arith)))
  where
    go : Dec (i ≡ n) → (sum_of n g ≤ sum_of n f → (i : ℕ) → i < n → f i ≡ g i) → f i ≡ g i
    go (yes e) rest =
        let before = sum-monotone n f g (λ j m. h j (omega arith)) in
        let here = h n (omega arith) in
        let same : f n ≡ g n = omega arith in
        rw e same
    go (no e) rest = let here = h n (omega arith) in rest (omega arith) i (omega arith)

pub sum_both : (n : ℕ) (f g : ℕ → ℕ) → sum_of n (λ i. f i + g i) ≡ sum_of n f + sum_of n g
sum_both zero f g = refl
sum_both (suc n) f g = let rest = sum_both n f g in omega arith

pub sum-equal : (n : ℕ) (f g : ℕ → ℕ) → ((i : ℕ) → i < n → f i ≡ g i) → sum_of n f ≡ sum_of n g
sum-equal n f g h =
    omega (arith, sum-monotone n f g (λ i l. omega (arith, h i l)), sum-monotone n g f (λ i l. omega (arith, h i l)))

sum_none : (n : ℕ) (f : ℕ → ℕ) → ((i : ℕ) → i < n → f i ≡ 0) → sum_of n f ≡ 0
sum_none n f h = omega (arith, sum-most n 0 f (λ i l. omega (arith, h i l)))

-- Of a sum in which every term but that of k is dropped, the term of k is left.
pub sum-pick : (n k : ℕ) (f : ℕ → ℕ) → k < n → sum_of n (λ i. cond (eqb k i) 1 0 * f i) ≡ f k
sum-pick zero k f h = absurd (omega arith)
sum-pick (suc n) k f h = go (ℕ_discrete k n) (sum-pick n k f)
  where
    dropped : (i : ℕ) → (k ≡ i → ⊥) → cond (eqb k i) 1 0 * f i ≡ 0
    dropped i apart = rw (ne_eqb k i apart) (zero-mul (f i))

    go : Dec (k ≡ n) → (k < n → sum_of n (λ i. cond (eqb k i) 1 0 * f i) ≡ f k) → sum_of n (λ i. cond (eqb k i) 1 0 * f i) + cond (eqb k n) 1 0 * f n ≡ f k
    go (yes e) rest =
        let before = sum_none n (λ i. cond (eqb k i) 1 0 * f i) (λ i l. dropped i (λ q. omega arith)) in
        let here : cond (eqb k n) 1 0 * f n ≡ f k = (rw (eq-eqb k n e) (one-mul (f n))) ∙ ap f (sym e) in
        omega arith
    go (no e) rest = let before = rest (omega arith) in let here = dropped n e in omega arith
