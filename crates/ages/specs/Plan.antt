-- A plan: what ages, tables, classes and totals need of a chart, worked out once. A block is known by its column, its place in the chart's list of
-- blocks; nothing here knows of L, S or A, or of bytes. And the flow of a plan's ages: what passes, checker and totals work on. Rules 2.8, 3.3, 6.5
-- and 6.7, and by `flow_by` rules 6.6, 7.3, 7.5, 7.6, 7.8 and 9.4. A choice: past the last node nothing is touched and no arrow leads out.
use Rattle.std.specs.Prelude.{ℕ, ◌<◌, Bool, List, [], ◌≡◌, get_or}
use Rattle.lists.specs.Lists.{Among}
use Rattle.cache.specs.Ages.{Columns, Ages, touch_ages, meet_ages, start_ages, same_ages, Within, Tighter}
use Rattle.flow.specs.Flow.{Flow}
use Rattle.flow.specs.Walk.{in_turn}

-- A touch of a column's block, and whether it is a write.
pub record ColumnTouch : Type 0 where
  pub column : ℕ
  pub write : Bool

-- What a node does: the touches that it makes, in turn, and the nodes that its arrows lead to, the first first.
pub record PlanNode : Type 0 where
  pub touches : List ColumnTouch
  pub arrows : List ℕ

pub record Plan : Type 0 where
  -- N, B, the entry, and whether the start is empty
  pub nodes : ℕ
  pub blocks : ℕ
  pub entry : ℕ
  pub empty : Bool
  -- for each column: its set key, equal exactly where sets are, and the most that its must and its may age can be
  pub keys : List ℕ
  pub must_limits : List ℕ
  pub may_limits : List ℕ
  -- what each node does
  pub steps : List PlanNode

-- The columns of a plan.
abbrev pub columns_of : Plan → Columns
columns_of plan =
    record {
      count = plan.blocks;
      key = λ column. get_or plan.keys column 0;
      must_limit = λ column. get_or plan.must_limits column 0;
      may_limit = λ column. get_or plan.may_limits column 0;
    }

-- Past the last node there is nothing to do.
abbrev pub nothing : PlanNode
nothing = record { touches = []; arrows = [] }

abbrev pub touches_in : Plan → ℕ → List ColumnTouch
touches_in plan n = (get_or plan.steps n nothing).touches

abbrev pub arrows_in : Plan → ℕ → List ℕ
arrows_in plan n = (get_or plan.steps n nothing).arrows

-- Rule 2.8: the ages after a touch of one of some columns, in which the flag of a write is not looked at.
abbrev pub touch_column : Columns → ColumnTouch → Ages → Ages
touch_column columns touch a = touch_ages columns touch.column a

abbrev pub after_touch : Plan → ColumnTouch → Ages → Ages
after_touch plan touch a = touch_column (columns_of plan) touch a

-- Ages that start and step so. Which states meet how is rule 6.6 (`meet`), what is a change rule 9.4 (`same`), what an age may be rule 7.3 (`Ok`),
-- and which of two states allows more is as in rules 7.5, 7.6 and 7.8 (`Below`): the definitions of `cache` over the plan's columns.
abbrev pub flow_by : Plan → Ages → (ℕ → Ages → Ages) → Flow
flow_by plan start step =
    record {
      State = Ages;
      nodes = plan.nodes;
      entry = plan.entry;
      arrows = arrows_in plan;
      start = start;
      step = step;
      meet = meet_ages (columns_of plan);
      same = same_ages;
      Ok = Within (columns_of plan);
      Below = Tighter (columns_of plan);
    }

-- Rules 3.3 and 6.5: a step is a node's touches in turn, so that a bare step, which has none, changes no age. Rule 6.7: the entry has the start before
-- the first pass, and what arrows bring is met into that.
abbrev pub plan_flow : Plan → Flow
plan_flow plan =
    flow_by plan (start_ages (columns_of plan) plan.empty) (λ n a. in_turn (after_touch plan) (touches_in plan n) a)

-- A plan that holds together: the entry is a node, arrows lead to nodes, what is touched has a column, and the columns of one set have one
-- must limit. This is no rule of the tool: laws of plans ask for it, and the plan of every accepted chart is such a plan.
pub record Sound (plan : Plan) : Type 0 where
  pub entry_inside : plan.entry < plan.nodes
  pub arrows-in : (n t : ℕ) → n < plan.nodes → Among t (arrows_in plan n) → t < plan.nodes
  pub columns_in : (n : ℕ) → n < plan.nodes → (touch : ColumnTouch) → Among touch (touches_in plan n) → touch.column < plan.blocks
  pub one_limit : (i j : ℕ)
      → i < plan.blocks
      → j < plan.blocks
      → get_or plan.keys i 0 ≡ get_or plan.keys j 0
      → get_or plan.must_limits i 0 ≡ get_or plan.must_limits j 0
