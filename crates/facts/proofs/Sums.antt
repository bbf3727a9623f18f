-- Laws of sums of sums: which is added up first does not matter, and a factor may stand inside or before.
use mathlib.Core.Path.{◌≡◌}
use Prim.Native.Nat.{ℕ, zero, suc, ◌*◌, zero-le}
use native.Mathlib.Omega.{arith}
use Rattle.lists.specs.Lists.{sum_of}
use Rattle.lists.proofs.Sums.{sum_both, sum-most}

pub sum-zero : (n : ℕ) → sum_of n (λ i. 0) ≡ 0
sum-zero n = omega (arith, sum-most n 0 (λ i. 0) (λ i h. zero-le))

pub sum-scaled : (k n : ℕ) (f : ℕ → ℕ) → sum_of n (λ i. k * f i) ≡ k * sum_of n f
sum-scaled k zero f = omega arith
sum-scaled k (suc n) f = let rest = sum-scaled k n f in omega arith

pub sum-swap : (m n : ℕ) (f : ℕ → ℕ → ℕ) → sum_of m (λ i. sum_of n (λ j. f i j)) ≡ sum_of n (λ j. sum_of m (λ i. f i j))
sum-swap zero n f = let none = sum-zero n in omega arith
sum-swap (suc m) n f =
    let rest = sum-swap m n f in
    let both = sum_both n (λ j. sum_of m (λ i. f i j)) (λ j. f m j) in
    omega arith
