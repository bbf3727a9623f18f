-- The list of the blocks that nodes touch, when it has too many, and where a block stands in it.
-- Rules 3.4 and 11.10, for any touches and any limit: `chart` puts in a chart's.
-- A choice: a block that is not in the list has a place too, the one that it would get.
use Rattle.std.specs.Prelude.{ℕ, zero, suc, Bool, cond, List, [], ◌∷◌, get_or, length, ltb, leb, eqb}
use Rattle.lists.specs.Choice.{first}

-- Rule 3.4, of one block more: put into an ascending list, where it is not there yet.
abbrev pub insert : ℕ → List ℕ → List ℕ
insert block [] = block ∷ []
insert block (x ∷ l) = cond (ltb x block) (x ∷ insert block l) (cond (eqb x block) (x ∷ l) (block ∷ x ∷ l))

-- Blocks put in one after another.
abbrev pub insert_all : List ℕ → List ℕ → List ℕ
insert_all [] l = l
insert_all (block ∷ blocks) l = insert_all blocks (insert block l)

-- Rule 3.4: the blocks that nodes 0 to n - 1 bring, where `touches` has those of each node. Whether a walk comes there is not asked.
unfoldable pub gathered : (ℕ → List ℕ) → ℕ → List ℕ
gathered touches zero = []
gathered touches (suc n) = insert_all (touches n) (gathered touches n)

-- Rule 11.10: whether nodes 0 to n bring more than `most` blocks. The first such n brings the one too many.
unfoldable pub overfull : ℕ → (ℕ → List ℕ) → ℕ → Bool
overfull most touches n = ltb most (length (gathered touches (suc n)))

-- The place of a block in an ascending list: the first that is not below it.
unfoldable pub place_in : List ℕ → ℕ → ℕ
place_in blocks block = first (length blocks) (λ i. leb block (get_or blocks i 0))
