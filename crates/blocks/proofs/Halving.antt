-- A search by halves, by numbers alone: what it keeps, and how many turns it takes.
use mathlib.Core.Bool.{Bool, true, false, cond}
use mathlib.Core.Logic.{⊎_elim}
use mathlib.Core.Path.{◌≡◌, refl, sym, ap, ◌∙◌}
use Prim.Native.Nat.{ℕ, zero, suc, ◌+◌, ◌-◌, ◌/◌, ◌^◌, ◌≤◌, ◌<◌, min, zero-le}
use native.Mathlib.Omega.{arith}
use borrow.Author.Tests.{lt-ltb, le-ltb, ltb-true}
use mir.Val.{bool_byte}
use lib.Bits.{bit_and, and_mask, and_zero_r}
use lib.Dec.{ltb}
use Rattle.lists.proofs.Orders.{below_or}

-- Of the first k places min k p are before p, and one more is if k is.
pub min-turn : (k p : ℕ) → min (k + 1) p ≡ min k p + bool_byte (ltb k p)
min-turn k p = ⊎_elim (λ (h : k < p). rw (lt-ltb k p h) (omega arith)) (λ (h : p ≤ k). rw (le-ltb k p h) (omega arith)) (below_or k p)

-- Two numbers up to k are the same if the same are before them.
pub same_first : (p q k : ℕ) → p ≤ k → q ≤ k → ((i : ℕ) → i < k → ltb i p ≡ ltb i q) → p ≡ q
same_first p q k h j same = ⊎_elim below (λ (least : q ≤ p). ⊎_elim (above least) (λ (most : p ≤ q). omega arith) (below_or q p)) (below_or p q)
  where
    below : p < q → p ≡ q
    below less = absurd (omega (arith, ltb-true p p (same p (omega arith) ∙ lt-ltb p q less)))

    above : q ≤ p → q < p → p ≡ q
    above least less = absurd (omega (arith, ltb-true q q (sym (same q (omega arith)) ∙ lt-ltb q p less)))

-- Where a search by halves stands in a list of `count`: the place p is at least `place` and at most `place + left`.
pub record Between (count place left p : ℕ) : Type 0 where
  pub passed : place ≤ p
  pub kept : p ≤ place + left
  pub inside : place + left ≤ count

-- A turn of it: the larger half is passed if its last place is before p, and as many are left as the smaller half has.
pub between-again : (count place left p middle : ℕ) → Between count place left p → 0 < left → middle + 1 ≡ place + (left - left / 2) → Between count (place + cond (ltb middle p) (left - left / 2) 0) (left / 2) p
between-again count place left p middle so some ends =
    ⊎_elim
    (λ (h : middle < p). rw (lt-ltb middle p h) (omega (arith, so)))
    (λ (h : p ≤ middle). rw (le-ltb middle p h) (omega (arith, so)))
    (below_or middle p)

-- A number below 2 ^ 32 within 32 ones is the number, and within none it is 0.
pub masked : (n : ℕ) (t : Bool) → n < 4294967296 → bit_and n (cond t 4294967295 0) ≡ cond t n 0
masked n true h = and_mask n 32 ∙ omega arith
masked n false h = and_zero_r n

-- How often a number can be halved until nothing is left. It has no more halvings than its own number, so that is room enough.
halvings_in : ℕ → ℕ → ℕ
halvings_in zero n = 0
halvings_in (suc room) zero = 0
halvings_in (suc room) (suc n) = suc (halvings_in room (suc n / 2))

pub halvings : ℕ → ℕ
halvings n = halvings_in n n

room-enough : (room other n : ℕ) → n ≤ room → n ≤ other → halvings_in room n ≡ halvings_in other n
unfolding halvings_in
room-enough zero zero n h k = refl
room-enough zero (suc other) zero h k = refl
room-enough zero (suc other) (suc n) h k = absurd (omega arith)
room-enough (suc room) zero zero h k = refl
room-enough (suc room) zero (suc n) h k = absurd (omega arith)
room-enough (suc room) (suc other) zero h k = refl
room-enough (suc room) (suc other) (suc n) h k = ap suc (room-enough room other (suc n / 2) (omega arith) (omega arith))

-- Each turn of the search takes one of them, so there are no more turns than its list has halvings.
pub halvings-turn : (n : ℕ) → 0 < n → halvings n ≡ suc (halvings (n / 2))
unfolding halvings halvings_in
halvings-turn zero h = absurd (omega arith)
halvings-turn (suc n) h = ap suc (room-enough n (suc n / 2) (suc n / 2) (omega arith) (omega arith))

-- For the reader: there are at most k for a number below the k-th power of two, and 7 for 64.
pub halvings-below : (k n : ℕ) → n < 2 ^ k → halvings n ≤ k
unfolding halvings halvings_in
halvings-below zero n h = let e : n ≡ 0 = omega arith in rw e zero-le
halvings-below (suc k) n h = go n h (halvings-below k (n / 2))
  where
    go : (n : ℕ) → n < 2 ^ suc k → (n / 2 < 2 ^ k → halvings (n / 2) ≤ k) → halvings n ≤ suc k
    go zero h rest = zero-le
    go (suc n) h rest = omega (arith, halvings-turn (suc n) (omega arith), rest (omega arith))

halvings-of-64 : halvings 64 ≡ 7
unfolding halvings halvings_in
halvings-of-64 = refl
