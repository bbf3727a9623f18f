-- A row as it is held by value, and what a record makes of ages. Rules 3.3 and 6.5; rules 6.3 and 6.4 come in by the definitions of `cache`. A row
-- has `most_blocks` places, the first of them for the chart's blocks: no answer depends on the rest.
-- What else is here inner functions promise one another.
use Rattle.std.specs.Prelude.{ℕ, ◌+◌, ◌*◌, ◌<◌, List, ◌≡◌, get_or, Option}
use Rattle.chart.specs.Geometry.{most_blocks}
use Rattle.cache.specs.Ages.{Columns, Ages, age_of, must_after, may_after}
use Rattle.flow.specs.Walk.{in_turn}
use Rattle.ages.specs.Plan.{touch_column}
use Rattle.plan.specs.Listed.{touches_by}
use Rattle.rows.specs.declared.Row.{Row}
use Rattle.plan.specs.declared.ColumnTouches.{ColumnTouches}

-- The key and the may limit of a column as they stand in a flat list, and so many columns.
abbrev pub key_by : List ℕ → ℕ → ℕ
key_by columns column = get_or columns column 0

abbrev pub may_limit_by : List ℕ → ℕ → ℕ
may_limit_by columns column = get_or columns (2 * most_blocks + column) 0

abbrev pub columns_by : List ℕ → ℕ → Columns
columns_by columns count =
    record {
      count = count;
      key = key_by columns;
      must_limit = λ column. get_or columns (most_blocks + column) 0;
      may_limit = may_limit_by columns;
    }

-- All places of a row as ages, and ages as a row.
abbrev pub ages_in : Row → Ages
ages_in row = record { must = row.must; may = row.may }

abbrev pub as_row : Ages → Row
as_row a = record { must = a.must; may = a.may }

-- The ages in two lent lists, as the clauses of a contract name them: at entry and at exit.
abbrev pub entry_ages : List ℕ → List ℕ → Ages
entry_ages must may = record { must = must; may = may }

abbrev pub exit_ages : List ℕ → List ℕ → Ages
exit_ages must may = record { must = must; may = may }

-- Rules 3.3 and 6.5: the touches in turn, each as rules 6.3 and 6.4 say; a bare step has none and changes no age.
abbrev pub after_record : Columns → Option ColumnTouches → Ages → Ages
after_record columns planned a = in_turn (touch_column columns) (touches_by planned) a

-- The age in a column of a row that begins at `base`.
abbrev pub age_from : ℕ → List ℕ → ℕ → ℕ
age_from base ages column = get_or ages (base + column) 0

-- A list begins with so many ages; what comes after them is free.
abbrev pub Begins : ℕ → List ℕ → (ℕ → ℕ) → Type 0
Begins count ages age = (column : ℕ) → column < count → age_of ages column ≡ age column

-- Rules 6.3 and 6.4: ages begin with those of a row that begins at `base`, after a touch of m.
pub record TouchedFrom (count : ℕ) (columns : List ℕ) (m base : ℕ) (row after : Ages) : Type 0 where
  pub must : Begins count after.must (must_after (key_by columns) m (age_from base row.must))
  pub may : Begins count after.may (may_after (key_by columns) (may_limit_by columns) m (age_from base row.may))
