-- What the functions on lent tables and their laws promise one another: stores over places of a buffer, rows beside the table, and used parts.
-- Nothing here is a rule of the tool: laws lead from it to the meetings of `flow`, which has rules 6.6 and 9.4.
use Rattle.std.specs.Prelude.{ℕ, ◌+◌, ◌*◌, ◌≤◌, ◌<◌, max, min, Bool, true, cond, List, ◌≡◌, get_or, set, length, take, ltb, eqb, Option}
use Rattle.lists.specs.Lists.{list_of}
use Rattle.lists.specs.Loops.{patch}
use Rattle.chart.specs.Geometry.{most_blocks}
use Rattle.rows.specs.Rows.{columns_by, after_record, age_from}
use Rattle.cache.specs.Ages.{Ages, age_of}
use Rattle.flow.specs.Pass.{Run}
use Rattle.layout.specs.Joins.{joined_row, row_moves}
use Rattle.ages.specs.Plan.{Plan}
use Rattle.tables.specs.Lent.{Lent, ages_used, marks_used, table_of, over}
use Rattle.plan.specs.declared.ColumnTouches.{ColumnTouches}

-- A lent table, and whether anything has changed.
pub record LentRun : Type 0 where
  pub lent : Lent
  pub changed : Bool

-- A run over a table, as it is laid over what was lent.
abbrev pub over_run : Plan → Lent → Run Ages → LentRun
over_run plan lent run = record { lent = over plan run.table lent; changed = run.changed }

-- The run over the table that is lent.
abbrev pub run_in : Plan → Lent → Bool → Run Ages
run_in plan lent changed = record { table = table_of plan lent; changed = changed }

-- The used part of a lent table, alone.
abbrev pub used_part : Plan → Lent → Lent
used_part plan lent =
    record {
      must = take (ages_used plan) lent.must;
      may = take (ages_used plan) lent.may;
      marks = take (marks_used plan) lent.marks;
    }

-- There is room for so many rows of so many ages, and for their marks.
pub record Roomy (nodes count : ℕ) (must may marks : List ℕ) : Type 0 where
  pub must_room : nodes * count ≤ length must
  pub may_room : nodes * count ≤ length may
  pub marks_room : nodes ≤ length marks

-- So many ages of each kind that stand in two lists from a place on.
abbrev pub ages_from : ℕ → ℕ → List ℕ → List ℕ → Ages
ages_from count base must may =
    record { must = list_of count (age_from base must); may = list_of count (age_from base may) }

-- Row n is there, and what stands in the lists of a plan for each column.
pub record Loads (columns must may : List ℕ) (count n : ℕ) : Type 0 where
  pub few : count ≤ most_blocks
  pub columns_long : 3 * most_blocks ≤ length columns
  pub must_in : n * count + count ≤ length must
  pub may_in : n * count + count ≤ length may

-- The ages of row n after a record.
abbrev pub row_after : List ℕ → List ℕ → List ℕ → ℕ → ℕ → Option ColumnTouches → Ages
row_after columns must may count n planned =
    after_record (columns_by columns most_blocks) planned (ages_from count (n * count) must may)

-- Two states whose ages are the same at each block; either may be longer.
pub record AgesAgree (count : ℕ) (row a : Ages) : Type 0 where
  pub must : (j : ℕ) → j < count → age_of row.must j ≡ age_of a.must j
  pub may : (j : ℕ) → j < count → age_of row.may j ≡ age_of a.may j

-- A must age moves where the new one is larger, a may age where it is smaller.
abbrev pub grows : ℕ → ℕ → Bool
grows old new = ltb old new

abbrev pub falls : ℕ → ℕ → Bool
falls old new = ltb new old

-- Ages met into row n: an unmarked row takes them as they are.
unfoldable pub taken_into : ℕ → ℕ → Ages → Lent → LentRun
taken_into count n a lent =
    record {
      lent = record {
        must = patch lent.must (n * count) count (age_of a.must);
        may = patch lent.may (n * count) count (age_of a.may);
        marks = set lent.marks n 1;
      };
      changed = true;
    }

-- Whether anything had changed, a must age grows, or a may age falls.
abbrev pub ages_move : ℕ → ℕ → Ages → LentRun → Bool
ages_move count n a run =
    row_moves falls (row_moves grows run.changed (n * count) count (age_of a.must) run.lent.must) (n * count) count (age_of a.may) run.lent.may

-- A marked row keeps the larger must ages and the smaller may ages.
unfoldable pub joined_into : ℕ → ℕ → Ages → LentRun → LentRun
joined_into count n a run =
    record {
      lent = record {
        must = joined_row max (n * count) count (age_of a.must) run.lent.must;
        may = joined_row min (n * count) count (age_of a.may) run.lent.may;
        marks = run.lent.marks;
      };
      changed = ages_move count n a run;
    }

-- The one or the other, by the mark.
abbrev pub met_into : ℕ → ℕ → Ages → LentRun → LentRun
met_into count n a run =
    cond (eqb (get_or run.lent.marks n 0) 0) (taken_into count n a run.lent) (joined_into count n a run)
