-- A block's place in an ascending list: one law of where it is, and what a search by halves and a count make of it.
use mathlib.Core.Bool.{Bool, true, false, cond}
use mathlib.Core.List.{List, [], ◌∷◌}
use mathlib.Core.Logic.{⊎_elim}
use mathlib.Core.Path.{◌≡◌, refl, sym, ap, ◌∙◌}
use Prim.Native.Nat.{ℕ, zero, suc, ◌+◌, ◌-◌, ◌/◌, ◌≤◌, ◌<◌, min}
use native.Mathlib.Omega.{arith}
use borrow.Author.Tests.{le-leb, lt-leb, lt-ltb, le-ltb, ltb-true}
use mir.Val.{bool_byte}
use lib.Bits.{bit_and}
use lib.Dec.{leb, ltb, leb-suc-suc}
use lib.ListN.{length, get_or, take}
use lib.Seq.{length-take-le}
use Rattle.lists.specs.Choice.{first_from}
use Rattle.blocks.specs.Blocks.{place_in}
use Rattle.blocks.specs.Listing.{Ascending}
use Rattle.lists.proofs.Orders.{below_or}
use Rattle.blocks.proofs.Halving.{min-turn, same_first, Between, between-again, masked}

first_from-suc : (k n : ℕ) (test : ℕ → Bool) → first_from (suc k) n test ≡ suc (first_from k n (λ i. test (suc i)))
first_from-suc k zero test = refl
first_from-suc k (suc n) test = go (test (suc k)) (first_from-suc (suc k) n test)
  where
    go : (t : Bool) → first_from (suc (suc k)) n test ≡ suc (first_from (suc k) n (λ i. test (suc i))) → cond t (suc k) (first_from (suc (suc k)) n test) ≡ suc (cond t k (first_from (suc k) n (λ i. test (suc i))))
    go true e = refl
    go false e = e

pub place-nil : (b : ℕ) → place_in [] b ≡ 0
unfolding place_in
place-nil b = refl

place-cons : (b x : ℕ) (l : List ℕ) → place_in (x ∷ l) b ≡ cond (leb b x) 0 (suc (place_in l b))
unfolding place_in
place-cons b x l = ap (λ (r : ℕ). cond (leb b x) 0 r) (first_from-suc 0 (length l) (λ i. leb b (get_or (x ∷ l) i 0)))

pub place_here : (b x : ℕ) (l : List ℕ) → b ≤ x → place_in (x ∷ l) b ≡ 0
place_here b x l h = place-cons b x l ∙ rw (le-leb b x h)

pub place-past : (b x : ℕ) (l : List ℕ) → x < b → place_in (x ∷ l) b ≡ suc (place_in l b)
place-past b x l h = place-cons b x l ∙ rw (lt-leb b x h)

pub place-le : (b : ℕ) (l : List ℕ) → place_in l b ≤ length l
place-le b [] = let e = place-nil b in omega arith
place-le b (x ∷ l) = ⊎_elim (λ (h : x < b). let e = place-past b x l h in let i = place-le b l in omega arith) (λ (h : b ≤ x). let e = place_here b x l h in omega arith) (below_or x b)

-- The first place not below: a block of an ascending list is below another exactly where it stands before that one's place.
pub below-place : (l : List ℕ) (count b : ℕ) → count ≤ length l → Ascending count l → (k : ℕ) → k < count → ltb (get_or l k 0) b ≡ ltb k (place_in (take count l) b)
below-place l zero b fits ascending k h = absurd (omega arith)
below-place [] (suc count) b fits ascending k h = absurd (omega arith)
below-place (x ∷ l) (suc count) b fits ascending k h =
    ⊎_elim
    (past k h (below-place l count b (omega arith) (λ i j less within. ascending (suc i) (suc j) (omega arith) (omega arith))))
    (here k h)
    (below_or x b)
  where
    past : (k : ℕ) → k < suc count → ((k : ℕ) → k < count → ltb (get_or l k 0) b ≡ ltb k (place_in (take count l) b)) → x < b → ltb (get_or (x ∷ l) k 0) b ≡ ltb k (place_in (x ∷ take count l) b)
    past zero h rest p = rw (place-past b x (take count l) p) (lt-ltb x b p ∙ sym (lt-ltb 0 (suc (place_in (take count l) b)) (omega arith)))
    past (suc k) h rest p = rw (place-past b x (take count l) p) (rest k (omega arith) ∙ sym (leb-suc-suc (suc k) (place_in (take count l) b)))

    above : (k : ℕ) → k < suc count → b ≤ x → b ≤ get_or (x ∷ l) k 0
    above zero h p = p
    above (suc k) h p = omega (arith, ascending 0 (suc k) (omega arith) h)

    here : (k : ℕ) → k < suc count → b ≤ x → ltb (get_or (x ∷ l) k 0) b ≡ ltb k (place_in (x ∷ take count l) b)
    here k h p = rw (place_here b x (take count l) p) (le-ltb (get_or (x ∷ l) k 0) b (above k h p) ∙ sym (le-ltb k 0 (omega arith)))

pub place-within : (l : List ℕ) (count b : ℕ) → count ≤ length l → place_in (take count l) b ≤ count
place-within l count b fits = omega (arith, place-le b (take count l), length-take-le count l fits)

module _ (l : List ℕ) (count b : ℕ) (fits : count ≤ length l) (ascending : Ascending count l) where
  -- A block is no less than its place: so there are at most 2 ^ 32 of them.
  pub climbs : (k : ℕ) → k < count → k ≤ get_or l k 0
  climbs zero h = omega arith
  climbs (suc k) h = let before = climbs k (omega arith) in omega (arith, ascending k (suc k) (omega arith) h)

  -- Past the last: all of them are below.
  pub place-past-all : 0 < count → get_or l (count - 1) 0 < b → count ≡ place_in (take count l) b
  place-past-all some p =
      let before = sym (below-place l count b fits ascending (count - 1) (omega arith)) ∙ lt-ltb (get_or l (count - 1) 0) b p in
      omega (arith, ltb-true (count - 1) (place_in (take count l) b) before, place-within l count b fits)

  -- A count of what is below: of the first k it has those that stand before the place.
  pub count_turn : (k : ℕ) → k < count → min (k + 1) (place_in (take count l) b) ≡ min k (place_in (take count l) b) + bool_byte (ltb (get_or l k 0) b)
  count_turn k h = min-turn k (place_in (take count l) b) ∙ ap (λ (t : Bool). min k (place_in (take count l) b) + bool_byte t) (sym (below-place l count b fits ascending k h))

  -- A turn of a search by halves, which looks at the block in the middle.
  pub search-turn : (place left middle mask : ℕ) → mask ≡ cond (ltb (get_or l middle 0) b) 4294967295 0 → Between count place left (place_in (take count l) b) → 0 < left → middle + 1 ≡ place + (left - left / 2) → left - left / 2 < 4294967296 → Between count (place + bit_and (left - left / 2) mask) (left / 2) (place_in (take count l) b)
  search-turn place left middle mask looked so some ends short =
      let step : bit_and (left - left / 2) mask ≡ cond (ltb middle (place_in (take count l) b)) (left - left / 2) 0 =
      ap (bit_and (left - left / 2)) (looked ∙ ap (λ (t : Bool). cond t 4294967295 0) (below-place l count b fits ascending middle (omega (arith, so)))) ∙ masked (left - left / 2) (ltb middle (place_in (take count l) b)) short
      in rw step (between-again count place left (place_in (take count l) b) middle so some ends)

  -- The first k of the list have the same place, if it is at most k.
  pub same_place : (k : ℕ) → k ≤ count → place_in (take count l) b ≤ k → place_in (take k l) b ≡ place_in (take count l) b
  same_place k h p =
      same_first (place_in (take k l) b) (place_in (take count l) b) k (place-within l k b (omega arith)) p
      (λ i within. sym (below-place l k b (omega arith) (λ i j less in-k. ascending i j less (omega arith)) i within) ∙ below-place l count b fits ascending i (omega arith))
