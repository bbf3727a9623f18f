-- Which plan two flat lists of numbers hold. Rules 2.2, 2.7 and 3.3, of a plan's numbers; how they are laid out is no rule's. `columns` has three
-- runs, each with room for the most blocks: set keys, must limits, may limits. `plan` begins with N, B, the entry and 1 for an empty start; three
-- numbers follow for each node: kind in two bits, how many arrows in the next two and above them the columns of the lower and the upper block; then
-- where the two arrows lead. A reference to one block has its column twice. A number that is not there counts as 0, a start other than 0 as
-- empty, and kind 3, which no chart has, as a read.
use Rattle.std.specs.Prelude.{ℕ, ◌+◌, ◌*◌, ◌/◌, ◌%◌, ◌≤◌, ◌<◌, Bool, not, cond, List, [], ◌∷◌, get_or, length, eqb, None, Option, Some}
use Rattle.lists.specs.Lists.{list_of}
use Rattle.lists.specs.Slices.{Passed, Slice}
use Rattle.chart.specs.Geometry.{most_nodes, most_blocks}
use Rattle.chart.specs.Record.{arrows_of}
use Rattle.ages.specs.Plan.{ColumnTouch, PlanNode, Plan, Sound}
use Rattle.plan.specs.declared.ColumnTouches.{ColumnTouches}
use Rattle.chart.specs.declared.records.Node.{Node}

-- The head: N, B, the entry, and whether the start is empty.
abbrev pub nodes_in : List ℕ → ℕ
nodes_in plan = get_or plan 0 0

abbrev pub blocks_in : List ℕ → ℕ
blocks_in plan = get_or plan 1 0

abbrev pub entry_in : List ℕ → ℕ
entry_in plan = get_or plan 2 0

abbrev pub empty_in : List ℕ → Bool
empty_in plan = not (eqb (get_or plan 3 0) 0)

-- Where the numbers of node n begin.
abbrev pub node_place : ℕ → ℕ
node_place n = 4 + 3 * n

-- Rule 2.2: what a kind of this number does to these two columns.
abbrev pub planned_of : ℕ → ℕ → ℕ → Option ColumnTouches
planned_of kind lower upper = cond (eqb kind 0) None (Some (record { lower = lower; upper = upper; write = eqb kind 2 }))

-- A node as the functions hand it on, by its three numbers.
abbrev pub node_from : ℕ → ℕ → ℕ → Node ColumnTouches
node_from deed first second =
    record {
      what = planned_of (deed % 4) (deed / 16 % most_blocks) (deed / 16 / most_blocks);
      targets = record { outs = deed / 4 % 4; first = first; second = second };
    }

-- Node n, by the numbers that stand there.
abbrev pub node_in : List ℕ → ℕ → Node ColumnTouches
node_in plan n = node_from (get_or plan (node_place n) 0) (get_or plan (node_place n + 1) 0) (get_or plan (node_place n + 2) 0)

-- Rule 3.3, by columns: the lower block first, and then the upper if that is another. Rule 2.7: a bare step has no touch, so that nothing is done
-- for it.
abbrev pub touches_by : Option ColumnTouches → List ColumnTouch
touches_by None = []
touches_by (Some reference) =
    record { column = reference.lower; write = reference.write }
    ∷ cond (eqb reference.lower reference.upper) [] (record { column = reference.upper; write = reference.write } ∷ [])

-- A reference is of two of the columns, or twice of one.
abbrev pub RecordIn : ℕ → Option ColumnTouches → Type 0
RecordIn count None = Unit {0}
RecordIn count (Some reference) = (reference.lower < count) × (reference.upper < count)

-- What a node does, as a plan has it.
abbrev pub plan_node : Node ColumnTouches → PlanNode
plan_node node = record { touches = touches_by node.what; arrows = arrows_of node.targets }

-- The plan that two lists hold.
abbrev pub plan_in : List ℕ → List ℕ → Plan
plan_in columns plan =
    record {
      nodes = nodes_in plan;
      blocks = blocks_in plan;
      entry = entry_in plan;
      empty = empty_in plan;
      keys = list_of (blocks_in plan) (λ column. get_or columns column 0);
      must_limits = list_of (blocks_in plan) (λ column. get_or columns (most_blocks + column) 0);
      may_limits = list_of (blocks_in plan) (λ column. get_or columns (2 * most_blocks + column) 0);
      steps = list_of (nodes_in plan) (λ n. plan_node (node_in plan n));
    }

-- Lists that are long enough for the plan that they hold, which is sound and no larger than a chart's.
pub record Drawn (columns plan : List ℕ) : Type 0 where
  pub columns_long : 3 * most_blocks ≤ length columns
  pub plan_long : node_place (nodes_in plan) ≤ length plan
  pub few_nodes : nodes_in plan ≤ most_nodes
  pub few_blocks : blocks_in plan ≤ most_blocks
  pub sound : Sound (plan_in columns plan)

-- The same of slices, as a `requires` and an `ensures` name them.
abbrev pub DrawnIn : Passed → Passed → Type 0
DrawnIn columns plan = Drawn columns.now plan.now

abbrev pub plan_at : Slice → Slice → Plan
plan_at columns plan = plan_in columns.entry.now plan.entry.now
