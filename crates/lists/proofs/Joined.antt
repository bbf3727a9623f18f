-- Laws of a list written over the start of another, and of rows of one length joined.
use mathlib.Core.List.{List, [], ◌∷◌, ◌++◌, map, append_assoc}
use mathlib.Core.Logic.{inl, inr}
use mathlib.Core.Path.{◌≡◌, refl, sym, ap, ◌∙◌}
use Prim.Native.Nat.{ℕ, zero, suc, ◌+◌, ◌*◌, ◌≤◌, ◌<◌}
use native.Mathlib.Nat.{mul-le-mul_right, zero-mul}
use native.Mathlib.Omega.{arith}
use lib.ListN.{length, get_or, set, take, drop, replicate, length-append, length-drop, replicate-append-replicate, get_or-append}
use lib.Seq.{drop_at, take-append-le, drop-append-le, take-append-add, drop-append-add, get_or-append-add}
use Rattle.lists.specs.Lists.{list_of, Among, joined, written}
use Rattle.lists.specs.Loops.{patch}
use Rattle.lists.proofs.Listed.{length-list_of}
use Rattle.lists.proofs.Loops.{patch-laid}

-- ---- written

module _ {X : Type 0} (new l : List X) where
  pub length-written : length new ≤ length l → length (written new l) ≡ length l
  length-written h = omega (arith, length-append new (drop (length new) l), length-drop (length new) l)

  pub get_or-written : (i : ℕ) (d : X) → i < length new → get_or (written new l) i d ≡ get_or new i d
  get_or-written i d h = get_or-append new (drop (length new) l) d i h

-- What is written over is not seen.
pub written-written : {X : Type 0} (new old l : List X) → length new ≡ length old → written new (written old l) ≡ written new l
written-written new old l e =
    ap (λ (m : List _). new ++ m) (drop_at old (drop (length old) l) (length new) (sym e) ∙ ap (λ (n : ℕ). drop n l) (sym e))

-- ---- mapped

pub map-set : {C X : Type 0} (f : C → X) (cells : List C) (t : ℕ) (c : C) → map f (set cells t c) ≡ set (map f cells) t (f c)
map-set f [] t c = refl
map-set f (x ∷ cells) zero c = refl
map-set f (x ∷ cells) (suc t) c = ap (λ (l : List _). f x ∷ l) (map-set f cells t c)

pub map-replicate : {C X : Type 0} (f : C → X) (n : ℕ) (c : C) → map f (replicate n c) ≡ replicate n (f c)
map-replicate f zero c = refl
map-replicate f (suc n) c = ap (λ (l : List _). f c ∷ l) (map-replicate f n c)

pub among-map : {C X : Type 0} (f : C → X) (c : C) (cells : List C) → Among c cells → Among (f c) (map f cells)
among-map f c [] i = absurd i
among-map f c (x ∷ cells) (inl e) = inl (ap f e)
among-map f c (x ∷ cells) (inr i) = inr (among-map f c cells i)

-- ---- rows of `count` each, joined

module _ {C X : Type 0} (row : C → List X) (count : ℕ) (d : C) where
  -- Each cell, and the one that stands for those past the end, has a row of that length.
  abbrev Rowed : List C → Type 0
  Rowed cells = (n : ℕ) → length (row (get_or cells n d)) ≡ count

  abbrev rows : List C → List X
  rows cells = joined (map row cells)

  pub length-rows : (cells : List C) → Rowed cells → length (rows cells) ≡ length cells * count
  length-rows [] r = omega arith
  length-rows (c ∷ cells) r = omega (arith, length-append (row c) (rows cells), r zero, length-rows cells (λ n. r (suc n)))

  pub get_or-rows : (cells : List C) → Rowed cells → (n k : ℕ) (z : X) → n < length cells → k < count → get_or (rows cells) (n * count + k) z ≡ get_or (row (get_or cells n d)) k z
  get_or-rows [] r n k z h i = absurd (omega arith)
  get_or-rows (c ∷ cells) r zero k z h i =
      let here : zero * count + k ≡ k = omega arith in
      rw here (get_or-append (row c) (rows cells) z k (omega (arith, r zero)))
  get_or-rows (c ∷ cells) r (suc n) k z h i =
      let there : suc n * count + k ≡ length (row c) + (n * count + k) = omega (arith, r zero) in
      rw there (get_or-append-add (row c) (rows cells) (n * count + k) z ∙ get_or-rows cells (λ n. r (suc n)) n k z (omega arith) i)

  -- One row replaced.
  pub rows-set : (cells : List C) → Rowed cells → (t : ℕ) (c : C) → t < length cells → rows (set cells t c) ≡ take (t * count) (rows cells) ++ (row c ++ drop (t * count + count) (rows cells))
  rows-set [] r t c h = absurd (omega arith)
  rows-set (x ∷ cells) r zero c h =
      let none : zero * count ≡ 0 = omega arith in
      let one : 0 + count ≡ count = omega arith in
      rw (none, one) (ap (λ (l : List X). row c ++ l) (sym (drop_at (row x) (rows cells) count (r zero))))
  rows-set (x ∷ cells) r (suc t) c h =
      let start : suc t * count ≡ length (row x) + t * count = omega (arith, r zero) in
      let end : length (row x) + t * count + count ≡ length (row x) + (t * count + count) = omega arith in
      rw (start, end, take-append-add (row x) (rows cells) (t * count), drop-append-add (row x) (rows cells) (t * count + count))
      (ap (λ (l : List X). row x ++ l) (rows-set cells (λ n. r (suc n)) t c (omega arith)) ∙ sym (append_assoc (row x) (take (t * count) (rows cells)) (row c ++ drop (t * count + count) (rows cells))))

  pub length-rows-set : (cells : List C) → Rowed cells → (t : ℕ) (c : C) → length (row c) ≡ count → length (rows (set cells t c)) ≡ length (rows cells)
  length-rows-set [] r t c e = refl
  length-rows-set (x ∷ cells) r zero c e = omega (arith, length-append (row c) (rows cells), length-append (row x) (rows cells), r zero)
  length-rows-set (x ∷ cells) r (suc t) c e =
      omega (arith, length-append (row x) (rows (set cells t c)), length-append (row x) (rows cells), length-rows-set cells (λ n. r (suc n)) t c e)

  pub rows-replicate : (z : X) (n : ℕ) → row d ≡ replicate count z → rows (replicate n d) ≡ replicate (n * count) z
  rows-replicate z zero e = ap (λ (k : ℕ). replicate k z) (sym (zero-mul count))
  rows-replicate z (suc n) e =
      let size : count + n * count ≡ suc n * count = omega arith in
      rw (e, rows-replicate z n e) (replicate-append-replicate count (n * count) z ∙ ap (λ (k : ℕ). replicate k z) size)

-- A row of a table lies within it.
pub row_in : (t n count : ℕ) → t < n → t * count + count ≤ n * count
row_in t n count h = omega (arith, mul-le-mul_right count h)

-- A loop that stores a row in the rows written over a list has written the rows with that one replaced.
pub rows-stored : {C : Type 0} (row : C → List ℕ) (count : ℕ) (d : C) (cells : List C) (l : List ℕ) → Rowed row count d cells → (t : ℕ) → t < length cells
    → (f : ℕ → ℕ) (c : C) → row c ≡ list_of count f → patch (written (rows row count d cells) l) (t * count) count f ≡ written (rows row count d (set cells t c)) l
rows-stored row count d cells l r t h f c e =
    let old : List ℕ = rows row count d cells in
    let tail : List ℕ = drop (length old) l in
    let room : t * count + count ≤ length old = omega (arith, length-rows row count d cells r, row_in t (length cells) count h) in
    let long : length (row c) ≡ count = ap length e ∙ length-list_of count f in
    patch-laid (old ++ tail) (t * count) count f (omega (arith, length-append old tail))
    ∙ (rw (take-append-le (t * count) old tail (omega arith), drop-append-le (t * count + count) old tail room, ← e, length-rows-set row count d cells r t c long, rows-set row count d cells r t c h) (simp append_assoc))
