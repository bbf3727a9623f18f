-- What a row of ages says of a plain cache. Rules 6.1 and 4.1, for any columns and any keys: `block_at` names the block of each column.
use Rattle.std.specs.Prelude.{ℕ, ◌≤◌, ◌<◌}
use Rattle.cache.specs.Ages.{Columns, Ages, age_of}
use Rattle.cache.specs.Plain.{Cache, age, Formed}

-- Rule 6.1: no block is older than its must age or younger than its may age.
pub record Bounds (columns : Columns) (ways key block_at : ℕ → ℕ) (a : Ages) (cache : Cache) : Type 0 where
  -- rule 4.1, which every touch keeps
  pub formed : Formed ways key cache
  -- rule 6.1, of must ages
  pub must_above : (column : ℕ) → column < columns.count → age ways key cache (block_at column) ≤ age_of a.must column
  -- rule 6.1, of may ages
  pub may_below : (column : ℕ) → column < columns.count → age_of a.may column ≤ age ways key cache (block_at column)
