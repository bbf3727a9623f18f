-- What laws of ages ask and measure: how an age grows in the plain cache, columns that name its blocks, and the height of a state.
-- Nothing here is a rule of the tool: laws and contracts of inner functions speak of it.
use Rattle.std.specs.Prelude.{◌≡◌, ℕ, suc, ◌+◌, ◌-◌, ◌≤◌, ◌<◌}
use Rattle.lists.specs.Lists.{sum_of}
use Rattle.cache.specs.Ages.{Columns, Ages, age_of}

-- What a touch of a block of age h does in the plain cache to another block of its set, of age x.
pub record Aged (h x after : ℕ) : Type 0 where
  pub younger : x < h → after ≡ suc x
  pub older : h ≤ x → after ≡ x

-- Columns that name blocks of a plain cache.
pub record Named (columns : Columns) (ways key block_at : ℕ → ℕ) : Type 0 where
  -- two columns have one key exactly if their blocks have
  pub one_set : (i j : ℕ) → i < columns.count → j < columns.count → columns.key i ≡ columns.key j → key (block_at i) ≡ key (block_at j)
  pub one_key : (i j : ℕ) → i < columns.count → j < columns.count → key (block_at i) ≡ key (block_at j) → columns.key i ≡ columns.key j
  pub must-limits : (column : ℕ) → column < columns.count → columns.must_limit column ≡ ways (key (block_at column))
  pub may-limits : (column : ℕ) → column < columns.count → columns.may_limit column ≡ ways (key (block_at column))
  pub apart : (i j : ℕ) → i < columns.count → j < columns.count → block_at i ≡ block_at j → i ≡ j

-- How far the ages of a block, and of all blocks, are from the tightest.
abbrev pub height_at : Columns → Ages → ℕ → ℕ
height_at columns a block = age_of a.must block + (columns.may_limit block - age_of a.may block)

unfoldable pub height : Columns → Ages → ℕ
height columns a = sum_of columns.count (height_at columns a)
