-- One age that grows as the rules say: it stays within its limit, it keeps the order, and it is right. An upper bound grown by the must
-- rule is an upper bound of the age that a touch leaves in the plain cache, and a lower bound grown by the may rule is a lower one.
use mathlib.Core.Logic.{⊎_elim}
use mathlib.Core.Path.{◌≡◌}
use Prim.Native.Nat.{ℕ, ◌≤◌, ◌<◌}
use native.Mathlib.Omega.{arith}
use borrow.Author.Tests.{lt-ltb, le-ltb, le-leb, lt-leb}
use Rattle.lists.proofs.Orders.{below_or, at_most}
use Rattle.cache.specs.Ages.{must_grown, may_grown}
use Rattle.cache.specs.Laws.{Aged}

-- ---- within the limit

pub grown-within : (limit h age : ℕ) → age ≤ limit → h ≤ limit → must_grown h age ≤ limit
unfolding must_grown
grown-within limit h age p q =
    ⊎_elim (λ (l : age < h). rw (lt-ltb age h l) (omega arith)) (λ (l : h ≤ age). rw (le-ltb age h l) (omega arith)) (below_or age h)

pub may-grown-within : (limit h age : ℕ) → age ≤ limit → may_grown limit h age ≤ limit
unfolding may_grown
may-grown-within limit h age p =
    ⊎_elim (λ (l : age ≤ h). rw (le-leb age h l) (omega arith)) (λ (l : h < age). rw (lt-leb age h l) (omega arith)) (at_most age h)

-- ---- in order

pub grown-monotone : (h k a b : ℕ) → h ≤ k → a ≤ b → must_grown h a ≤ must_grown k b
unfolding must_grown
grown-monotone h k a b p q =
    ⊎_elim
    (λ (l : a < h). ⊎_elim (λ (m : b < k). rw (lt-ltb a h l, lt-ltb b k m) (omega arith)) (λ (m : k ≤ b). rw (lt-ltb a h l, le-ltb b k m) (omega arith)) (below_or b k))
    (λ (l : h ≤ a). ⊎_elim (λ (m : b < k). rw (le-ltb a h l, lt-ltb b k m) (omega arith)) (λ (m : k ≤ b). rw (le-ltb a h l, le-ltb b k m) (omega arith)) (below_or b k))
    (below_or a h)

pub may-grown-monotone : (limit h k a b : ℕ) → a ≤ limit → h ≤ k → a ≤ b → may_grown limit h a ≤ may_grown limit k b
unfolding may_grown
may-grown-monotone limit h k a b w p q =
    ⊎_elim
    (λ (l : a ≤ h). ⊎_elim (λ (m : b ≤ k). rw (le-leb a h l, le-leb b k m) (omega arith)) (λ (m : k < b). rw (le-leb a h l, lt-leb b k m) (omega arith)) (at_most b k))
    (λ (l : h < a). ⊎_elim (λ (m : b ≤ k). rw (lt-leb a h l, le-leb b k m) (omega arith)) (λ (m : k < b). rw (lt-leb a h l, lt-leb b k m) (omega arith)) (at_most b k))
    (at_most a h)

-- ---- right

module _ (h x after : ℕ) (aged : Aged h x after) where
  -- k and y are no less than h and x.
  pub grown-above : (k y : ℕ) → h ≤ k → x ≤ y → after ≤ must_grown k y
  unfolding must_grown
  grown-above k y p q =
      ⊎_elim
      (λ (l : x < h). ⊎_elim (λ (m : y < k). rw (lt-ltb y k m) (omega (arith, aged.younger l))) (λ (m : k ≤ y). rw (le-ltb y k m) (omega (arith, aged.younger l))) (below_or y k))
      (λ (l : h ≤ x). ⊎_elim (λ (m : y < k). rw (lt-ltb y k m) (omega (arith, aged.older l))) (λ (m : k ≤ y). rw (le-ltb y k m) (omega (arith, aged.older l))) (below_or y k))
      (below_or x h)

  -- k and y are no more than h and x; two blocks of one age are both absent.
  pub may-grown-below : (limit k y : ℕ) → k ≤ h → y ≤ x → x ≤ limit → (x ≡ h → x ≡ limit) → may_grown limit k y ≤ after
  unfolding may_grown
  may-grown-below limit k y p q w absent =
      ⊎_elim
      (λ (m : y ≤ k). ⊎_elim (λ (l : x < h). rw (le-leb y k m) (omega (arith, aged.younger l))) (λ (l : h ≤ x). rw (le-leb y k m) (⊎_elim (λ (s : h < x). omega (arith, aged.older l)) (λ (s : x ≤ h). let same : x ≡ h = omega arith in omega (arith, aged.older l, absent same)) (below_or h x))) (below_or x h))
      (λ (m : k < y). ⊎_elim (λ (l : x < h). rw (lt-leb y k m) (omega (arith, aged.younger l))) (λ (l : h ≤ x). rw (lt-leb y k m) (omega (arith, aged.older l))) (below_or x h))
      (at_most y k)
