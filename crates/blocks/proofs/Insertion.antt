-- A block put into a list: where it stands then, and that an ascending list stays one.
use mathlib.Core.List.{List, [], ◌∷◌, ◌++◌}
use mathlib.Core.Logic.{⊎_elim}
use mathlib.Core.Path.{◌≡◌, ap, ◌∙◌}
use Prim.Native.Nat.{ℕ, zero, suc, ◌≤◌, ◌<◌}
use native.Mathlib.Omega.{arith}
use borrow.Author.Tests.{lt-ltb, le-ltb, eq-eqb, ne_eqb}
use lib.ListN.{length, get_or, take, drop}
use Rattle.blocks.specs.Blocks.{insert, insert_all, gathered, place_in}
use Rattle.blocks.specs.Listing.{Ascending}
use Rattle.lists.proofs.Orders.{below_or, at_most}
use Rattle.blocks.proofs.Search.{place-nil, place_here, place-past}

-- ---- a block put into a list

insert-past : (b x : ℕ) (l : List ℕ) → x < b → insert b (x ∷ l) ≡ x ∷ insert b l
insert-past b x l h = rw (lt-ltb x b h)

insert-same : (b x : ℕ) (l : List ℕ) → x ≡ b → insert b (x ∷ l) ≡ x ∷ l
insert-same b x l h = rw (le-ltb x b (omega arith), eq-eqb x b h)

insert-before : (b x : ℕ) (l : List ℕ) → b ≤ x → (x ≡ b → ⊥) → insert b (x ∷ l) ≡ b ∷ x ∷ l
insert-before b x l h n = rw (le-ltb x b h, ne_eqb x b n)

-- Which way an insertion goes at the head of a list.
pub insert-cases : (P : List ℕ → Type 0) (c x : ℕ) (l : List ℕ) → (x < c → P (x ∷ insert c l)) → (x ≡ c → P (x ∷ l)) → (c < x → P (c ∷ x ∷ l)) → P (insert c (x ∷ l))
insert-cases P c x l past same front = ⊎_elim
    (λ (h : x < c). rw (insert-past c x l h) (past h))
    (λ (h : c ≤ x). ⊎_elim
    (λ (k : x ≤ c). let e : x ≡ c = omega arith in rw (insert-same c x l e) (same e))
    (λ (k : c < x). rw (insert-before c x l h (λ e. omega arith)) (front k))
    (at_most x c))
    (below_or x c)

-- A block that stands at its place is not put in again.
pub insert-there : (b : ℕ) (l : List ℕ) → place_in l b < length l → get_or l (place_in l b) 0 ≡ b → insert b l ≡ l
insert-there b [] h e = let q = place-nil b in absurd (omega arith)
insert-there b (x ∷ l) h e = ⊎_elim (past (insert-there b l)) here (below_or x b)
  where
    past : (place_in l b < length l → get_or l (place_in l b) 0 ≡ b → insert b l ≡ l) → x < b → insert b (x ∷ l) ≡ x ∷ l
    past rest p =
        let q : place_in (x ∷ l) b ≡ suc (place_in l b) = place-past b x l p in
        insert-past b x l p ∙ ap (λ (r : List ℕ). x ∷ r) (rest (omega arith) (rw q at e))

    here : b ≤ x → insert b (x ∷ l) ≡ x ∷ l
    here p =
        let q : place_in (x ∷ l) b ≡ 0 = place_here b x l p in
        insert-same b x l (rw q at e)

-- One that does not stands there afterwards.
pub insert-new : (b : ℕ) (l : List ℕ) → (place_in l b < length l → get_or l (place_in l b) 0 ≡ b → ⊥) → insert b l ≡ take (place_in l b) l ++ b ∷ drop (place_in l b) l
insert-new b [] n = rw (place-nil b)
insert-new b (x ∷ l) n = ⊎_elim (past (insert-new b l)) here (below_or x b)
  where
    past : ((place_in l b < length l → get_or l (place_in l b) 0 ≡ b → ⊥) → insert b l ≡ take (place_in l b) l ++ b ∷ drop (place_in l b) l) → x < b → insert b (x ∷ l) ≡ take (place_in (x ∷ l) b) (x ∷ l) ++ b ∷ drop (place_in (x ∷ l) b) (x ∷ l)
    past rest p =
        let q : place_in (x ∷ l) b ≡ suc (place_in l b) = place-past b x l p in
        rw q (insert-past b x l p ∙ ap (λ (r : List ℕ). x ∷ r) (rest (λ h e. n (omega arith) (rw q e))))

    here : b ≤ x → insert b (x ∷ l) ≡ take (place_in (x ∷ l) b) (x ∷ l) ++ b ∷ drop (place_in (x ∷ l) b) (x ∷ l)
    here p =
        let q : place_in (x ∷ l) b ≡ 0 = place_here b x l p in
        rw q (insert-before b x l p (λ e. n (omega arith) (rw q e)))

-- ---- an ascending list stays one

abbrev Above : ℕ → List ℕ → Type 0
Above x l = (j : ℕ) → j < length l → x < get_or l j 0

above-cons : (x y : ℕ) (l : List ℕ) → x < y → Above x l → Above x (y ∷ l)
above-cons x y l h a zero k = h
above-cons x y l h a (suc j) k = a j (omega arith)

above-tail : (x y : ℕ) (l : List ℕ) → Above x (y ∷ l) → Above x l
above-tail x y l a j k = a (suc j) (omega arith)

above-insert : (x b : ℕ) (l : List ℕ) → x < b → Above x l → Above x (insert b l)
above-insert x b [] h a = above-cons x b [] h a
above-insert x b (y ∷ l) h a =
    let rest = above-insert x b l h (above-tail x y l a) in
    insert-cases (Above x) b y l (λ p. above-cons x y (insert b l) (a 0 (omega arith)) rest) (λ e. a) (λ p. above-cons x b (y ∷ l) h a)

asc-cons : (x : ℕ) (l : List ℕ) → Above x l → Ascending (length l) l → Ascending (length (x ∷ l)) (x ∷ l)
asc-cons x l a s i zero h k = absurd (omega arith)
asc-cons x l a s zero (suc j) h k = a j (omega arith)
asc-cons x l a s (suc i) (suc j) h k = s i j (omega arith) (omega arith)

asc-above : (x : ℕ) (l : List ℕ) → Ascending (length (x ∷ l)) (x ∷ l) → Above x l
asc-above x l s j h = s 0 (suc j) (omega arith) (omega arith)

asc-tail : (x : ℕ) (l : List ℕ) → Ascending (length (x ∷ l)) (x ∷ l) → Ascending (length l) l
asc-tail x l s i j h k = s (suc i) (suc j) (omega arith) (omega arith)

pub asc-insert : (b : ℕ) (l : List ℕ) → Ascending (length l) l → Ascending (length (insert b l)) (insert b l)
asc-insert b [] s = asc-cons b [] (λ j h. absurd (omega arith)) s
asc-insert b (y ∷ l) s =
    let rest = asc-insert b l (asc-tail y l s) in
    insert-cases (λ (m : List ℕ). Ascending (length m) m) b y l
    (λ p. asc-cons y (insert b l) (above-insert y b l p (asc-above y l s)) rest)
    (λ e. s)
    (λ p. asc-cons b (y ∷ l) (above-cons b y l p (λ j h. let a = asc-above y l s j h in omega arith)) s)

asc-insert_all : (bs l : List ℕ) → Ascending (length l) l → Ascending (length (insert_all bs l)) (insert_all bs l)
asc-insert_all [] l s = s
asc-insert_all (b ∷ bs) l s = asc-insert_all bs (insert b l) (asc-insert b l s)

pub asc-gathered : (touches : ℕ → List ℕ) (n : ℕ) → Ascending (length (gathered touches n)) (gathered touches n)
unfolding gathered
asc-gathered touches zero = λ i j h k. absurd (omega arith)
asc-gathered touches (suc n) = asc-insert_all (touches n) (gathered touches n) (asc-gathered touches n)

-- ---- different places of an ascending list hold different blocks

pub ascending-apart : (n : ℕ) (l : List ℕ) → Ascending n l → (i j : ℕ) → i < n → j < n → get_or l i 0 ≡ get_or l j 0 → i ≡ j
ascending-apart n l s i j one other e =
    ⊎_elim
    (λ (less : i < j). absurd (omega (arith, s i j less other)))
    (λ (more : j ≤ i). ⊎_elim (λ (less : j < i). absurd (omega (arith, s j i less one))) (λ (same : i ≤ j). omega arith) (below_or j i))
    (below_or i j)
