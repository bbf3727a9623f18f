-- Tables of ages in lent buffers: what is used of them, when they pass, and a table written over them. Rules 7.1, 7.2, 7.4, 7.7, 11.11, 12.2 and
-- 12.7; rules 7.3, 7.5 and 7.6 come in by `Passing` of `flow`. Any mark but 0 makes a node marked, so that a table can be read off any buffers;
-- that it is 1 is asked apart. A table that is shorter than used does not pass, since it is refused. The ages are any numbers.
use Rattle.std.specs.Prelude.{ℕ, ◌*◌, ◌≤◌, ◌<◌, ◌≡◌, Bool, false, ◌||◌, List, get_or, length, take, replicate, ltb}
use Rattle.lists.specs.Lists.{written}
use Rattle.cache.specs.Ages.{Ages}
use Rattle.flow.specs.Flow.{Cell}
use Rattle.flow.specs.Passing.{Passing}
use Rattle.layout.specs.Rows.{marks_of, rows_of, row_at, table_by}
use Rattle.ages.specs.Plan.{Plan, plan_flow}

-- ---- a table as it is lent

-- Rule 7.1, as it is lent: must ages, may ages and marks, a list of each.
pub record Lent : Type 0 where
  pub must : List ℕ
  pub may : List ℕ
  pub marks : List ℕ

-- Rule 12.2: how many ages of each kind are used.
abbrev pub ages_used : Plan → ℕ
ages_used plan = plan.nodes * plan.blocks

-- Rule 12.2: how many marks are used.
abbrev pub marks_used : Plan → ℕ
marks_used plan = plan.nodes

-- Rule 12.2: the ages of node n, which stand together.
abbrev pub ages_at : Plan → Lent → ℕ → Ages
ages_at plan lent n =
    record { must = row_at plan.blocks lent.must n; may = row_at plan.blocks lent.may n }

-- Rule 7.1: the table that is lent. A node with mark 0 is unmarked, one with any other is marked.
abbrev pub table_of : Plan → Lent → List (Cell Ages)
table_of plan lent = table_by plan.nodes (ages_at plan lent) lent.marks

-- Rule 7.7, as a statement.
pub record TablePasses (plan : Plan) (lent : Lent) : Type 0 where
  -- rule 7.1: as much is there as is used
  pub must_long : ages_used plan ≤ length lent.must
  pub may_long : ages_used plan ≤ length lent.may
  pub marks_long : marks_used plan ≤ length lent.marks
  -- rule 7.2
  pub marks_plain : (n : ℕ) → n < plan.nodes → get_or lent.marks n 0 ≤ 1
  -- rule 7.4
  pub unmarked-zero : (n : ℕ)
      → n < plan.nodes
      → get_or lent.marks n 0 ≡ 0
      → ages_at plan lent n ≡ record { must = replicate plan.blocks 0; may = replicate plan.blocks 0 }
  -- rules 7.3, 7.5 and 7.6: the ages, the entry, and each arrow
  pub equations : Passing (plan_flow plan) (table_of plan lent)

-- Rule 11.11, of a table: one of its lists has fewer places than are used.
abbrev pub table_short : Plan → Lent → Bool
table_short plan lent =
    ltb (length lent.must) (ages_used plan)
    || (ltb (length lent.may) (ages_used plan) || ltb (length lent.marks) (marks_used plan))

-- Rule 12.7 is said of two such tables: their used parts are there and are the same, whatever comes after them.
pub record SameUsed (plan : Plan) (one other : Lent) : Type 0 where
  pub must : take (ages_used plan) one.must ≡ take (ages_used plan) other.must
  pub may : take (ages_used plan) one.may ≡ take (ages_used plan) other.may
  pub marks : take (marks_used plan) one.marks ≡ take (marks_used plan) other.marks
  pub one_long : table_short plan one ≡ false
  pub other_long : table_short plan other ≡ false

-- ---- a table as it is written

-- Rule 7.1: the used parts of the buffers that a table lies in; the ages of an unmarked node are 0 (rule 7.4).
abbrev pub lent_of : Plan → List (Cell Ages) → Lent
lent_of plan table =
    record {
      must = rows_of plan.blocks (λ a. a.must) table;
      may = rows_of plan.blocks (λ a. a.may) table;
      marks = marks_of table;
    }

-- Rules 7.1 and 12.2: a table written over what is lent, which keeps whatever it has beyond.
abbrev pub over : Plan → List (Cell Ages) → Lent → Lent
over plan table lent =
    record {
      must = written (lent_of plan table).must lent.must;
      may = written (lent_of plan table).may lent.may;
      marks = written (lent_of plan table).marks lent.marks;
    }
