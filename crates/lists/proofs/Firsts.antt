-- The first number that passes a test: it passes, and none before it does.
use Prim.Native.Nat.{ℕ, zero, suc, ◌+◌, ◌≤◌, ◌<◌}
use mathlib.Core.Bool.{Bool, true, false}
use mathlib.Core.Logic.{⊎_elim}
use mathlib.Core.Path.{◌≡◌, refl}
use native.Mathlib.Decide.{ℕ_discrete}
use native.Mathlib.Omega.{arith}
use Rattle.lists.specs.Choice.{first_from, first}
use Rattle.lists.proofs.Choice.{first-most}
use Rattle.lists.proofs.Orders.{below_or}

from-passes : (k left : ℕ) (test : ℕ → Bool) → first_from k left test < k + left → test (first_from k left test) ≡ true
from-passes k zero test h = absurd (omega arith)
from-passes k (suc left) test h = go (test k) refl (from-passes (suc k) left test)
  where
    go : (t : Bool) → test k ≡ t → (first_from (suc k) left test < suc k + left → test (first_from (suc k) left test) ≡ true) → test (first_from k (suc left) test) ≡ true
    go true q rest = rw (q, q)
    go false q rest = let later : first_from (suc k) left test < k + suc left = (rw q at h) in rw q (rest (omega arith))

from-fails : (k left : ℕ) (test : ℕ → Bool) (i : ℕ) → k ≤ i → i < first_from k left test → test i ≡ false
from-fails k zero test i low h = absurd (omega arith)
from-fails k (suc left) test i low h = go (test k) refl (from-fails (suc k) left test i) (ℕ_discrete i k)
  where
    go : (t : Bool) → test k ≡ t → (suc k ≤ i → i < first_from (suc k) left test → test i ≡ false) → Dec (i ≡ k) → test i ≡ false
    go true q rest d = let z : i < k = (rw q at h) in absurd (omega arith)
    go false q rest (yes e) = rw e q
    go false q rest (no e) = let z : i < first_from (suc k) left test = (rw q at h) in rest (omega arith) z

true-not-false : {t : Bool} → t ≡ true → t ≡ false → ⊥
true-not-false e d = let z : ◌≡◌ {A = ℕ} 0 1 = cc in omega arith

module _ (n : ℕ) (test : ℕ → Bool) where
  pub first-test : first n test < n → test (first n test) ≡ true
  first-test h = from-passes 0 n test (omega arith)

  pub first-fails : (i : ℕ) → i < first n test → test i ≡ false
  first-fails i h = from-fails 0 n test i (omega arith) h

  pub first-within : first n test ≤ n
  first-within = omega (arith, first-most 0 n test)

  -- One that passes, and none before it does.
  pub first-is : (k : ℕ) → k < n → test k ≡ true → ((i : ℕ) → i < k → test i ≡ false) → first n test ≡ k
  first-is k h passes fails = ⊎_elim earlier (λ late. ⊎_elim later (λ early. omega arith) (below_or k (first n test))) (below_or (first n test) k)
    where
      earlier : first n test < k → first n test ≡ k
      earlier less = absurd (true-not-false (first-test (omega arith)) (fails (first n test) less))

      later : k < first n test → first n test ≡ k
      later more = absurd (true-not-false passes (first-fails k more))
