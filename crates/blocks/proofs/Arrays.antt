-- Lists laid into arrays: a block put in, and the blocks that nodes bring.
use mathlib.Core.Bool.{true, false}
use mathlib.Core.List.{List, [], ◌∷◌, ◌++◌}
use mathlib.Core.Path.{◌≡◌, refl, sym, ap, subst, ◌∙◌}
use Prim.Native.Nat.{ℕ, suc, ◌+◌, ◌-◌, ◌≤◌, ◌<◌}
use native.Mathlib.Numerals.{add-one}
use native.Mathlib.Omega.{arith}
use borrow.Author.Tests.{lt-ltb, le-ltb}
use lib.ListN.{length, get_or, take, drop, replicate, length-append, length-take, length-drop}
use lib.Seq.{paste, get_or-take, length-take-le, take-append-le, drop-append-le, take_at, drop-append-add}
use Rattle.std.specs.Prelude.{Option, Some, None}
use Rattle.lists.specs.Lists.{padded}
use Rattle.lists.proofs.Lists.{length-padded, get_or-padded}
use Rattle.blocks.specs.Blocks.{insert, insert_all, gathered, overfull, place_in}
use Rattle.blocks.specs.Listing.{Ascending, Listing, Laid}
use Rattle.blocks.proofs.Search.{place-le}
use Rattle.blocks.proofs.Insertion.{insert-there, insert-new, asc-insert, asc-gathered}
use Rattle.blocks.proofs.Exact.{insert-all-longer}

-- ---- a list in an array

length-put : (b p : ℕ) (l : List ℕ) → p ≤ length l → length (take p l ++ b ∷ drop p l) ≡ length l + 1
length-put b p l h = omega (arith, length-append (take p l) (b ∷ drop p l), length-take-le p l h, length-drop p l)

-- A block put between in front of a place to spare.
paste-put : (l rest : List ℕ) (b p x : ℕ) → p ≤ length l → paste (l ++ x ∷ rest) p (b ∷ drop p (l ++ x ∷ rest)) (length l - p + 1) ≡ (take p l ++ b ∷ drop p l) ++ rest
paste-put l rest b p x h =
    let e : p + (length l - p + 1) ≡ length l + 1 = omega arith in
    rw (e, add-one (length l - p), take-append-le p l (x ∷ rest), drop-append-le p l (x ∷ rest), take_at (drop p l) (x ∷ rest) (length l - p) (length-drop p l), drop-append-add l (x ∷ rest) 1)

-- The same in an array, where there is room.
paste-padded : (size : ℕ) (l : List ℕ) (b p : ℕ) → p ≤ length l → length l < size → paste (padded size l) p (b ∷ drop p (padded size l)) (length l - p + 1) ≡ padded size (take p l ++ b ∷ drop p l)
paste-padded size l b p h k =
    let e : size - length l ≡ suc (size - (length l + 1)) = omega arith in
    rw (e, length-put b p l h) (paste-put l (replicate (size - (length l + 1)) 0) b p 0 h)

pub ascending-padded : (size : ℕ) (l : List ℕ) → Ascending (length l) l → Ascending (length l) (padded size l)
ascending-padded size l s i j p q = rw (get_or-padded size l i (omega arith), get_or-padded size l j q) (s i j p q)

-- A listing: its array's length, its list's, and how a laid list makes one.
module _ (size count : ℕ) (array : List ℕ) (given : Listing size count array) where
  pub listing-size : length array ≡ size
  listing-size = ap length given.laid ∙ length-padded size (take count array) (omega (arith, length-take count array, given.short))

  pub listing-length : length (take count array) ≡ count
  listing-length = length-take-le count array (omega (arith, listing-size, given.short))

pub laid-take : (size count : ℕ) (array l : List ℕ) → count ≡ length l → array ≡ padded size l → take count array ≡ l
laid-take size count array l n e = ap (λ (a : List ℕ). take count a) e ∙ take_at l (replicate (size - length l) 0) count (sym n)

pub laid-listing : (size count : ℕ) (array l : List ℕ) → count ≤ size → count ≡ length l → array ≡ padded size l → Ascending (length l) l → Listing size count array
laid-listing size count array l h n e s =
    record {
      short = h;
      laid = e ∙ ap (padded size) (sym (laid-take size count array l n e));
      ascending = rw (e, n) (ascending-padded size l s);
    }

-- ---- a block put into an array

module _ (size count : ℕ) (array : List ℕ) (b p : ℕ) (given : Listing size count array) (placed : p ≡ place_in (take count array) b) where
  pub put-place : p ≤ count
  put-place = omega (arith, place-le b (take count array), listing-length size count array given, placed)

  at_place : p < count → get_or (take count array) (place_in (take count array) b) 0 ≡ get_or array p 0
  at_place h = ap (λ (k : ℕ). get_or (take count array) k 0) (sym placed) ∙ get_or-take count array p 0 h

  in-length : p < count → place_in (take count array) b < length (take count array)
  in-length h = omega (arith, listing-length size count array given, placed)

  out-length : place_in (take count array) b < length (take count array) → p < count
  out-length h = omega (arith, listing-length size count array given, placed)

  pub put-there : p < count → get_or array p 0 ≡ b → Laid size (insert b (take count array)) (Some count) array
  put-there h e =
      let same : insert b (take count array) ≡ take count array = insert-there b (take count array) (in-length h) (at_place h ∙ e) in
      record {
        within = (sym (ap length same ∙ listing-length size count array given), given.short, given.laid ∙ ap (padded size) (sym same));
        over = tt;
      }

  module _ (new : p < count → get_or array p 0 ≡ b → ⊥) where
    put-between : insert b (take count array) ≡ take p (take count array) ++ b ∷ drop p (take count array)
    put-between =
        insert-new b (take count array) (λ h e. new (out-length h) (sym (at_place (out-length h)) ∙ e))
        ∙ ap (λ (k : ℕ). take k (take count array) ++ b ∷ drop k (take count array)) (sym placed)

    within-list : p ≤ length (take count array)
    within-list = omega (arith, listing-length size count array given, put-place)

    pub put-counted : count + 1 ≡ length (insert b (take count array))
    put-counted = sym (ap length put-between ∙ length-put b p (take count array) within-list ∙ ap (λ (k : ℕ). k + 1) (listing-length size count array given))

    pub put-over : size ≤ count → Laid size (insert b (take count array)) None array
    put-over h = record { within = tt; over = omega (arith, put-counted) }

    pub put-new : count < size → (after : List ℕ) → after ≡ paste array p (b ∷ drop p array) (count - p + 1) → Laid size (insert b (take count array)) (Some (count + 1)) after
    put-new h after e =
        record {
          within = (
            put-counted,
            omega arith,
            e
                ∙ ap (λ (a : List ℕ). paste a p (b ∷ drop p a) (count - p + 1)) given.laid
                ∙ ap (λ (k : ℕ). paste (padded size (take count array)) p (b ∷ drop p (padded size (take count array))) (k - p + 1)) (sym (listing-length size count array given))
                ∙ paste-padded size (take count array) b p within-list (omega (arith, listing-length size count array given))
                ∙ ap (padded size) (sym put-between),
          );
          over = tt;
        }

-- ---- the blocks of one node: none, one, or a second after the first

pub put-none : (size count : ℕ) (array : List ℕ) → Listing size count array → Laid size (take count array) (Some count) array
put-none size count array given = record { within = (sym (listing-length size count array given), given.short, given.laid); over = tt }

module _ (size count : ℕ) (array : List ℕ) (b : ℕ) (after : List ℕ) (given : Listing size count array) where
  -- There was no room for the first, so there is none for it and others.
  pub put-over-all : (more : List ℕ) → Laid size (insert b (take count array)) None after → Laid size (insert_all (b ∷ more) (take count array)) None after
  put-over-all more first = record { within = tt; over = omega (arith, first.over, insert-all-longer more (insert b (take count array))) }

  list-ascends : Ascending (length (take count array)) (take count array)
  list-ascends i j p q =
      let far : j < count = omega (arith, listing-length size count array given) in
      rw (get_or-take count array i 0 (omega arith), get_or-take count array j 0 far) (given.ascending i j p far)

  module _ (more : ℕ) (first : Laid size (insert b (take count array)) (Some more) after) where
    pub put-listing : Listing size more after
    put-listing =
        laid-listing size more after (insert b (take count array)) first.within.1 first.within.0 first.within.2
        (asc-insert b (take count array) list-ascends)

    pub put_both : (c : ℕ) (then : Option ℕ) (last : List ℕ) → Laid size (insert c (take more after)) then last → Laid size (insert_all (b ∷ c ∷ []) (take count array)) then last
    put_both c then last second =
        subst (λ (l : List ℕ). Laid size (insert c l) then last) (laid-take size more after (insert b (take count array)) first.within.0 first.within.2) second

-- ---- the blocks of all nodes

pub gathered_none : (touches : ℕ → List ℕ) → gathered touches 0 ≡ []
unfolding gathered
gathered_none touches = refl

gathered-more : (touches : ℕ → List ℕ) (n : ℕ) → gathered touches (n + 1) ≡ insert_all (touches n) (gathered touches n)
unfolding gathered
gathered-more touches n = rw add-one

module _ (size : ℕ) (touches : ℕ → List ℕ) (n count : ℕ) (array : List ℕ) (short : count ≤ size) (counted : count ≡ length (gathered touches n)) (laid : array ≡ padded size (gathered touches n)) where
  pub gather-listing : Listing size count array
  gather-listing = laid-listing size count array (gathered touches n) short counted laid (asc-gathered touches n)

  pub gather-more : (more : Option ℕ) (after : List ℕ) → Laid size (insert_all (touches n) (take count array)) more after → Laid size (gathered touches (n + 1)) more after
  gather-more more after h = rw (gathered-more touches n, ← laid-take size count array (gathered touches n) counted laid) h

module _ (size : ℕ) (touches : ℕ → List ℕ) (n : ℕ) (after : List ℕ) where
  then_many : length (gathered touches (n + 1)) ≡ length (gathered touches (suc n))
  then_many = ap (λ (k : ℕ). length (gathered touches k)) (add-one n)

  pub gather-over : Laid size (gathered touches (n + 1)) None after → overfull size touches n ≡ true
  unfolding overfull
  gather-over given = lt-ltb size (length (gathered touches (suc n))) (omega (arith, then_many, given.over))

  pub gather-within : (more : ℕ) → Laid size (gathered touches (n + 1)) (Some more) after → overfull size touches n ≡ false
  unfolding overfull
  gather-within more given = le-ltb size (length (gathered touches (suc n))) (omega (arith, then_many, given.within.0, given.within.1))
