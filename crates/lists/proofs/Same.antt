-- Two lists of numbers that compare as the same are the same, and a loop that looks for a place where they differ tells whether they are.
use mathlib.Core.Bool.{Bool, true, false, not, ◌&&◌, ◌||◌, false≢true}
use mathlib.Core.List.{List, [], ◌∷◌, ◌++◌}
use mathlib.Core.Path.{◌≡◌, refl, sym, ap, ◌∙◌}
use Prim.Native.Nat.{ℕ, zero, suc, ◌<◌}
use native.Mathlib.Omega.{arith}
use borrow.Author.Tests.{eqb-true, eq-eqb}
use lib.Dec.{eqb}
use lib.ListN.{length}
use Rattle.lists.specs.Lists.{list_of, same_row}
use Rattle.lists.specs.Loops.{any}
use Rattle.lists.proofs.Choice.{and-true, and_last}
use Rattle.lists.proofs.Listed.{length-list_of, list_of-more}

pub same_row-equal : (xs ys : List ℕ) → same_row xs ys ≡ true → xs ≡ ys
same_row-equal [] [] e = refl
same_row-equal [] (y ∷ ys) e = absurd (false≢true e)
same_row-equal (x ∷ xs) [] e = absurd (false≢true e)
same_row-equal (x ∷ xs) (y ∷ ys) e =
    let both = and-true (eqb x y) (same_row xs ys) e in
    let here : x ≡ y = eqb-true x y both.0 in
    let rest : xs ≡ ys = same_row-equal xs ys both.1 in
    cc

pub row_same : (xs : List ℕ) → same_row xs xs ≡ true
row_same [] = refl
row_same (x ∷ xs) = rw (eq-eqb x x refl) (row_same xs)

-- One more at the end.
same_more : (l r : List ℕ) (x y : ℕ) → length l ≡ length r → same_row (l ++ (x ∷ [])) (r ++ (y ∷ [])) ≡ (same_row l r && eqb x y)
same_more [] [] x y e = and_last (eqb x y)
same_more [] (b ∷ r) x y e = absurd (omega arith)
same_more (a ∷ l) [] x y e = absurd (omega arith)
same_more (a ∷ l) (b ∷ r) x y e = go (eqb a b) (same_more l r x y (omega arith))
  where
    go : (t : Bool) → same_row (l ++ (x ∷ [])) (r ++ (y ∷ [])) ≡ (same_row l r && eqb x y) → (t && same_row (l ++ (x ∷ [])) (r ++ (y ∷ []))) ≡ ((t && same_row l r) && eqb x y)
    go true d = d
    go false d = refl

-- One part differs, or the other does: they are not both the same.
pub or-not : (c s t : Bool) → ((c || not s) || not t) ≡ (c || not (s && t))
or-not true s t = refl
or-not false true t = refl
or-not false false t = refl

or-last : (c : Bool) → c ≡ (c || false)
or-last true = refl
or-last false = refl

-- A test that tells at each place whether two lists differ there tells whether they differ.
pub any-differs : (c : Bool) (n : ℕ) (test : ℕ → Bool) (f g : ℕ → ℕ) → ((j : ℕ) → j < n → test j ≡ not (eqb (f j) (g j)))
    → any c n test ≡ (c || not (same_row (list_of n f) (list_of n g)))
any-differs c zero test f g h = or-last c
any-differs c (suc n) test f g h =
    let rest : any c n test ≡ (c || not (same_row (list_of n f) (list_of n g))) = any-differs c n test f g (λ j k. h j (omega arith)) in
    let here : test n ≡ not (eqb (f n) (g n)) = h n (omega arith) in
    (λ i. rest i || here i)
    ∙ or-not c (same_row (list_of n f) (list_of n g)) (eqb (f n) (g n))
    ∙ ap (λ (t : Bool). c || not t)
    (sym (same_more (list_of n f) (list_of n g) (f n) (g n) (length-list_of n f ∙ sym (length-list_of n g))) ∙ (λ i. same_row (sym (list_of-more n f) i) (sym (list_of-more n g) i)))
