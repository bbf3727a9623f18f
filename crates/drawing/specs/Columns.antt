-- The keys and limits that inner functions draw into the columns of a plan. Nothing here is a rule of the tool: `Draws` (Drawing.antt) holds
-- them to the chart's plan, whose keys go by the sets of rule 3.2. A key is the first column of the same set, so that it fits a byte.
use Rattle.std.specs.Prelude.{ℕ, ◌+◌, ◌*◌, ◌<◌, Bool, List, ◌≡◌, eqb, get_or}
use Rattle.lists.specs.Choice.{first}
use Rattle.chart.specs.Geometry.{most_blocks}

-- The first column of the same set, from the set of each.
abbrev pub alike : List ℕ → ℕ → ℕ → Bool
alike sets column earlier = eqb (get_or sets earlier 0) (get_or sets column 0)

abbrev pub first_alike : List ℕ → ℕ → ℕ
first_alike sets column = first column (alike sets column)

-- The key and the limits of each of the first `count` columns.
pub record ColumnsDrawn (sets : List ℕ) (limit count : ℕ) (columns : List ℕ) : Type 0 where
  pub keys : (k : ℕ) → k < count → get_or columns k 0 ≡ first_alike sets k
  pub must-limits : (k : ℕ) → k < count → get_or columns (most_blocks + k) 0 ≡ limit
  pub may-limits : (k : ℕ) → k < count → get_or columns (2 * most_blocks + k) 0 ≡ limit
