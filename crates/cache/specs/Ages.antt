-- Must and may ages: the start, a touch, a meeting, and which of two states is tighter. Rules 6.1 to 6.4, 6.6, 7.1, 7.3,
-- 7.5, 7.6 and 9.4.
-- A row has an age for each of `count` columns. A column stands for a block, by its place in the chart's list, and is known here by its
-- set key, which two columns share exactly if their blocks are of one set, and by the most that its must and its may age can be.
-- Choices: both limits are A (`plan_of`), and stand apart so that nothing here knows of A; past the end of a row an age is 0.
use Rattle.std.specs.Prelude.{ℕ, suc, ◌≤◌, ◌<◌, min, max, ◌≡◌, Bool, cond, ◌&&◌, List, get_or, length, eqb, ltb, leb}
use Rattle.lists.specs.Lists.{list_of, same_row}

-- How many columns there are, and of each its set key and its two limits.
pub record Columns : Type 0 where
  pub count : ℕ
  pub key : ℕ → ℕ
  pub must_limit : ℕ → ℕ
  pub may_limit : ℕ → ℕ

-- Rule 6.1: a must age and a may age for each block.
pub record Ages : Type 0 where
  pub must : List ℕ
  pub may : List ℕ

abbrev pub age_of : List ℕ → ℕ → ℕ
age_of row column = get_or row column 0

-- ---- a touch of m, on the ages of all blocks

-- Rule 6.3: a must age of the set of m, where m's is h.
unfoldable pub must_grown : ℕ → ℕ → ℕ
must_grown h age = cond (ltb age h) (suc age) age

-- Rule 6.4: a may age of the set of m, where m's is h.
unfoldable pub may_grown : ℕ → ℕ → ℕ → ℕ
may_grown limit h age = cond (leb age h) (min limit (suc age)) age

-- Rule 6.3: the must age of each column.
unfoldable pub must_after : (ℕ → ℕ) → ℕ → (ℕ → ℕ) → ℕ → ℕ
must_after key m age column =
    cond (eqb column m) 0 (cond (eqb (key column) (key m)) (must_grown (age m) (age column)) (age column))

-- Rule 6.4: the may age of each column.
unfoldable pub may_after : (ℕ → ℕ) → (ℕ → ℕ) → ℕ → (ℕ → ℕ) → ℕ → ℕ
may_after key limit m age column =
    cond (eqb column m) 0 (cond (eqb (key column) (key m)) (may_grown (limit column) (age m) (age column)) (age column))

-- ---- the same on rows

-- Rule 9.4: whether all ages of two states are the same.
unfoldable pub same_ages : Ages → Ages → Bool
same_ages a b = same_row a.must b.must && same_row a.may b.may

module _ (columns : Columns) where
  -- Rules 6.3 and 6.4: a state after a touch of m.
  unfoldable pub touch_ages : ℕ → Ages → Ages
  touch_ages m a =
      record {
        must = list_of columns.count (must_after columns.key m (age_of a.must));
        may = list_of columns.count (may_after columns.key columns.may_limit m (age_of a.may));
      }

  -- Rule 6.6: where two states meet.
  unfoldable pub meet_ages : Ages → Ages → Ages
  meet_ages a b =
      record {
        must = list_of columns.count (λ column. max (age_of a.must column) (age_of b.must column));
        may = list_of columns.count (λ column. min (age_of a.may column) (age_of b.may column));
      }

  -- Rule 6.2: the ages at the start.
  unfoldable pub start_ages : Bool → Ages
  start_ages empty =
      record {
        must = list_of columns.count columns.must_limit;
        may = list_of columns.count (λ column. cond empty (columns.may_limit column) 0);
      }

  -- ---- which rows are rows of a table, and which of two is tighter

  -- Rule 7.3: no age is above its limit. And there is one for each column (rule 7.1).
  pub record Within (a : Ages) : Type 0 where
    pub must_long : length a.must ≡ columns.count
    pub may_long : length a.may ≡ columns.count
    pub must-most : (column : ℕ) → column < columns.count → age_of a.must column ≤ columns.must_limit column
    pub may-most : (column : ℕ) → column < columns.count → age_of a.may column ≤ columns.may_limit column

  -- Rules 7.5 and 7.6: no must age of b is below that of a, and no may age above it.
  pub record Tighter (a b : Ages) : Type 0 where
    pub must-less : (column : ℕ) → column < columns.count → age_of a.must column ≤ age_of b.must column
    pub may_more : (column : ℕ) → column < columns.count → age_of b.may column ≤ age_of a.may column
