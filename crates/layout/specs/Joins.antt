-- A row of numbers met, place by place, into a row of a lent list: what stands there then, and whether any of it moved.
-- Nothing here is a rule of the tool: contracts of inner functions and their loops speak of it, and laws lead from it to the meeting of states.
use Rattle.std.specs.Prelude.{Bool, List, ◌≡◌, ℕ, ◌+◌, get_or}
use Rattle.lists.specs.Loops.{patch, any}

-- The row that begins at base, joined with new numbers.
abbrev pub joined_row : (ℕ → ℕ → ℕ) → ℕ → ℕ → (ℕ → ℕ) → List ℕ → List ℕ
joined_row join base count new l = patch l base count (λ j. join (get_or l (base + j) 0) (new j))

-- `changed`, or whether a new number moves the one that stands there.
abbrev pub row_moves : (ℕ → ℕ → Bool) → Bool → ℕ → ℕ → (ℕ → ℕ) → List ℕ → Bool
row_moves moves changed base count new l = any changed count (λ j. moves (get_or l (base + j) 0) (new j))

-- Both, of a list and a flag that were `l` and `changed`.
pub record RowJoined (join : ℕ → ℕ → ℕ) (moves : ℕ → ℕ → Bool) (base count : ℕ) (new : ℕ → ℕ) (changed : Bool) (l after : List ℕ) (flag : Bool) : Type 0 where
  pub row : after ≡ joined_row join base count new l
  pub flag_is : flag ≡ row_moves moves changed base count new l
