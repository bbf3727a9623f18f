-- Which blocks share words, and which are left after that: the columns of each cache set as bits, one of them chosen, and those chosen taken out of
-- the blocks that are left. Nothing here is a rule of the tool: contracts of inner functions and laws speak of it.
use Rattle.std.specs.Prelude.{ℕ, ◌<◌, false, cond, ◌&&◌, List, ◌⊎◌, ◌≡◌, eqb, ltb, get_or, length}
use Rattle.std.specs.Int.Bits.{bit_and}
use Rattle.std.specs.Int.Count.{count_trailing_zeros}
use Rattle.lists.specs.Loops.{patch}
use Rattle.bits.specs.Bits.{is_set}
use Rattle.keeping.specs.Words.{Chosen}

-- How many set keys a byte can tell apart: a key is the number of a column, and stands in a list of bytes.
abbrev pub most_keys : ℕ
most_keys = 256

-- The list has the columns below a count of each cache set, by set key.
pub record SetsListed (columns : List ℕ) (count : ℕ) (sets : List ℕ) : Type 0 where
  pub room : length sets ≡ most_keys
  pub members : (key column : ℕ) → key < most_keys → is_set (get_or sets key 0) column ≡ (ltb column count && eqb (get_or columns column 0) key)

-- One column of a cache set: this block, or the lowest that is left, or the lowest.
abbrev pub picked : ℕ → ℕ → ℕ → ℕ
picked members left block =
    cond (is_set members block) block (cond (eqb (bit_and left members) 0) (count_trailing_zeros 64 members) (count_trailing_zeros 64 (bit_and left members)))

-- For each column below a count that of its cache set.
abbrev pub picked_all : List ℕ → List ℕ → ℕ → ℕ → ℕ → List ℕ → List ℕ
picked_all columns sets left block count chosen =
    patch chosen 0 count (λ m. picked (get_or sets (get_or columns m 0) 0) left block)

-- Those that are no longer left were not before, or are chosen. That each one that is chosen is taken out is not said: to tell of it once more is no mistake.
abbrev pub TakenOut : List ℕ → ℕ → ℕ → ℕ → Type 0
TakenOut chosen count left rest =
    (block : ℕ) → block < count → is_set rest block ≡ false → (is_set left block ≡ false) ⊎ Chosen chosen block
