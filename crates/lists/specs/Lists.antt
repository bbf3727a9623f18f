-- Lists by their elements, whether two are the same, a list laid over the start of another, and a sum.
-- Rules 12.1, 12.2, 15.2 and 15.5, of one list alone (`padded`, `written`); all else here is no rule of the tool, and definitions are put
-- together of it. Choices: both are for lists that fit. What is longer than its buffer or its places is not cut.
use Rattle.std.specs.Prelude.{Bool, true, false, ◌&&◌, List, [], ◌∷◌, ◌++◌, ◌⊎◌, ◌≡◌, ℕ, zero, suc, ◌+◌, ◌-◌, eqb, length, drop, replicate}

-- f k, f (k + 1), .. : n of them
abbrev pub list_from : {X : Type 0} → ℕ → ℕ → (ℕ → X) → List X
list_from k zero f = []
list_from k (suc n) f = f k ∷ list_from (suc k) n f

-- f 0, f 1, .. f (n - 1)
abbrev pub list_of : {X : Type 0} → ℕ → (ℕ → X) → List X
list_of n f = list_from zero n f

-- It stands somewhere in the list.
abbrev pub Among : {X : Type 0} → X → List X → Type 0
Among t [] = ⊥
Among t (x ∷ xs) = (t ≡ x) ⊎ Among t xs

-- Whether two lists of numbers are the same.
abbrev pub same_row : List ℕ → List ℕ → Bool
same_row [] [] = true
same_row [] (y ∷ ys) = false
same_row (x ∷ xs) [] = false
same_row (x ∷ xs) (y ∷ ys) = eqb x y && same_row xs ys

-- f 0 + f 1 + .. + f (n - 1)
abbrev pub sum_of : ℕ → (ℕ → ℕ) → ℕ
sum_of zero f = 0
sum_of (suc n) f = sum_of n f + f n

-- The lists one after the other.
abbrev pub joined : {X : Type 0} → List (List X) → List X
joined [] = []
joined (l ∷ ls) = l ++ joined ls

-- Rules 12.2, 15.2 and 15.5, of one buffer: `new` written over its start, and all beyond that as it was.
abbrev pub written : {X : Type 0} → List X → List X → List X
written new lent = new ++ drop (length new) lent

-- Rule 12.1, of the list of blocks: a list at the start of `size` places, zeros behind it.
abbrev pub padded : ℕ → List ℕ → List ℕ
padded size l = l ++ replicate (size - length l) 0
