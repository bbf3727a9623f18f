-- Laws of lists by their elements.
use mathlib.Core.List.{List, [], ◌∷◌, ◌++◌}
use mathlib.Core.Path.{◌≡◌, refl, sym, ap, ◌∙◌}
use Prim.Native.Nat.{ℕ, zero, suc, ◌+◌, ◌≤◌, ◌<◌}
use native.Mathlib.Nat.{zero-add}
use native.Mathlib.Omega.{arith}
use lib.ListN.{length, get_or, set, take, replicate}
use lib.Seq.{ext_get_or, get_or-take, length-take-le, take-length}
use Rattle.lists.specs.Lists.{list_from, list_of}

module _ {X : Type 0} where
  length-list_from : (k n : ℕ) (f : ℕ → X) → length (list_from k n f) ≡ n
  length-list_from k zero f = refl
  length-list_from k (suc n) f = ap suc (length-list_from (suc k) n f)

  pub length-list_of : (n : ℕ) (f : ℕ → X) → length (list_of n f) ≡ n
  length-list_of n f = length-list_from zero n f

  get_or-list_from : (k n : ℕ) (f : ℕ → X) (d : X) (i : ℕ) → i < n → get_or (list_from k n f) i d ≡ f (k + i)
  get_or-list_from k zero f d i h = absurd (omega arith)
  get_or-list_from k (suc n) f d zero h = ap f (omega arith)
  get_or-list_from k (suc n) f d (suc i) h = get_or-list_from (suc k) n f d i (omega arith) ∙ ap f (omega arith)

  pub get_or-list_of : (n : ℕ) (f : ℕ → X) (d : X) (i : ℕ) → i < n → get_or (list_of n f) i d ≡ f i
  get_or-list_of n f d i h = get_or-list_from zero n f d i h ∙ ap f (zero-add i)

  -- Two lists that agree at each place are the same.
  list_from-same : (k n : ℕ) (f g : ℕ → X) → ((i : ℕ) → k ≤ i → i < k + n → f i ≡ g i) → list_from k n f ≡ list_from k n g
  list_from-same k zero f g h = refl
  list_from-same k (suc n) f g h =
      let here : f k ≡ g k = h k (omega arith) (omega arith) in
      let rest : list_from (suc k) n f ≡ list_from (suc k) n g = list_from-same (suc k) n f g (λ i a b. h i (omega arith) (omega arith)) in
      rw (here, rest)

  pub list_of-same : (n : ℕ) (f g : ℕ → X) → ((i : ℕ) → i < n → f i ≡ g i) → list_of n f ≡ list_of n g
  list_of-same n f g h = list_from-same zero n f g (λ i a b. h i (omega arith))

  -- One more at the end.
  list_from-more : (k n : ℕ) (f : ℕ → X) → list_from k (suc n) f ≡ list_from k n f ++ (f (k + n) ∷ [])
  list_from-more k zero f = ap (λ (i : ℕ). f i ∷ []) (omega arith)
  list_from-more k (suc n) f =
      ap (λ (l : List X). f k ∷ l)
      (list_from-more (suc k) n f ∙ ap (λ (i : ℕ). list_from (suc k) n f ++ (f i ∷ [])) (omega arith))

  pub list_of-more : (n : ℕ) (f : ℕ → X) → list_of (suc n) f ≡ list_of n f ++ (f n ∷ [])
  list_of-more n f = list_from-more zero n f ∙ ap (λ (i : ℕ). list_of n f ++ (f i ∷ [])) (omega arith)

  -- The same value at each place.
  list_from-const : (k n : ℕ) (x : X) → list_from k n (λ i. x) ≡ replicate n x
  list_from-const k zero x = refl
  list_from-const k (suc n) x = ap (λ (l : List X). x ∷ l) (list_from-const (suc k) n x)

  pub list_of-const : (n : ℕ) (x : X) → list_of n (λ i. x) ≡ replicate n x
  list_of-const n x = list_from-const zero n x

  -- What stands at the first places of a list, listed.
  pub list_of-take : (n : ℕ) (l : List X) (d : X) → n ≤ length l → list_of n (λ i. get_or l i d) ≡ take n l
  list_of-take n l d h =
      ext_get_or d (list_of n (λ i. get_or l i d)) (take n l) (length-list_of n (λ i. get_or l i d) ∙ sym (length-take-le n l h))
      (λ i lt.
      let k : i < n = omega (arith, length-list_of n (λ i. get_or l i d)) in
      get_or-list_of n (λ i. get_or l i d) d i k ∙ sym (get_or-take n l i d k))

  pub list_of-all : (l : List X) (d : X) → list_of (length l) (λ i. get_or l i d) ≡ l
  list_of-all l d = list_of-take (length l) l d (omega arith) ∙ take-length l

  -- A list of that length is what stands at its places, listed; and so are values that stand there.
  pub list_of-is : (n : ℕ) (l : List X) (d : X) → length l ≡ n → l ≡ list_of n (λ i. get_or l i d)
  list_of-is n l d e = sym (list_of-all l d) ∙ ap (λ (k : ℕ). list_of k (λ i. get_or l i d)) e

  pub list_of-at : (n : ℕ) (f : ℕ → X) (l : List X) (d : X) → length l ≡ n → ((i : ℕ) → i < n → f i ≡ get_or l i d) → list_of n f ≡ l
  list_of-at n f l d e h = list_of-same n f (λ i. get_or l i d) h ∙ sym (list_of-is n l d e)

  -- What holds of each element, and of what is stored, holds of each element after the store.
  pub set_all : (Q : X → Type 0) (l : List X) (t : ℕ) (v d : X) → Q v → ((n : ℕ) → Q (get_or l n d)) → (n : ℕ) → Q (get_or (set l t v) n d)
  set_all Q [] t v d q h n = h n
  set_all Q (x ∷ l) zero v d q h zero = q
  set_all Q (x ∷ l) zero v d q h (suc n) = h (suc n)
  set_all Q (x ∷ l) (suc t) v d q h zero = h zero
  set_all Q (x ∷ l) (suc t) v d q h (suc n) = set_all Q l t v d q (λ n. h (suc n)) n

  -- Lists that agree in their first places.
  pub take-agree : (n : ℕ) (l m : List X) (d : X) (i : ℕ) → i < n → take n l ≡ take n m → get_or l i d ≡ get_or m i d
  take-agree n l m d i h e = sym (get_or-take n l i d h) ∙ ap (λ (k : List X). get_or k i d) e ∙ get_or-take n m i d h
