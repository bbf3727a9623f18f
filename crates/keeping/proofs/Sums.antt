-- Two sums whose terms differ at one place alone.
use mathlib.Core.Path.{◌≡◌, ap}
use Prim.Native.Nat.{ℕ, zero, suc, ◌+◌, ◌<◌}
use native.Mathlib.Decide.{ℕ_discrete}
use native.Mathlib.Omega.{arith}
use Rattle.lists.specs.Lists.{sum_of}
use Rattle.lists.proofs.Sums.{sum-equal}

pub sum-but-one : (n t : ℕ) (f g : ℕ → ℕ) → t < n → ((i : ℕ) → i < n → (i ≡ t → ⊥) → f i ≡ g i) → sum_of n f + g t ≡ sum_of n g + f t
sum-but-one zero t f g h same = absurd (omega arith)
sum-but-one (suc n) t f g h same = go (ℕ_discrete t n) (sum-but-one n t f g)
  where
    go : Dec (t ≡ n) → (t < n → ((i : ℕ) → i < n → (i ≡ t → ⊥) → f i ≡ g i) → sum_of n f + g t ≡ sum_of n g + f t) → sum_of (suc n) f + g t ≡ sum_of (suc n) g + f t
    go (yes q) rest =
        let before = sum-equal n f g (λ i k. same i (omega arith) (λ e. omega arith)) in
        let here : f t ≡ f n = ap f q in
        let there : g t ≡ g n = ap g q in
        omega arith
    go (no q) rest =
        let before = rest (omega arith) (λ i k. same i (omega arith)) in
        let here = same n (omega arith) (λ e. q (omega arith)) in
        omega arith
