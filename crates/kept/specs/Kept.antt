-- The flow of one block's state over the nodes and arrows of a plan, the table that its passes settle at, and when a touch is kept. Rules 16.1 to
-- 16.8, and rule 8.1 for a touch that is kept; rules 7.5 to 7.8 and 9.1 to 9.5 come in by the definitions of `flow`.
-- Choices: a set's members are held to the most that the may age of the block's column can be, which for a chart is A; a block that is no column has a
-- flow too, and no answer depends on it.
use Rattle.std.specs.Prelude.{ℕ, suc, ◌+◌, ◌*◌, Bool, List, [], ltb}
use Rattle.chart.specs.Geometry.{most_blocks}
use Rattle.flow.specs.Flow.{Cell, blank, holds, cell_at, Flow}
use Rattle.flow.specs.Walk.{in_turn}
use Rattle.flow.specs.Pass.{Outcome, settled, spent, settle}
use Rattle.ages.specs.Plan.{ColumnTouch, Plan, columns_of, touches_in, arrows_in}
use Rattle.kept.specs.Since.{Since, members, untouched, touch_since, meet_since, same_since, SinceFits, SinceLess}

-- Rule 16.3: what is held of a block after one touch.
abbrev pub after_touch_of : Plan → ℕ → ColumnTouch → Since → Since
after_touch_of plan block touch since = touch_since (columns_of plan) block touch.column since

-- Rules 16.2 to 16.6: a step is a node's touches in turn, so that a bare step, which has none, changes nothing (rule 16.4). The entry has the start before
-- the first pass, and what arrows bring is met into that (rule 16.5).
abbrev pub kept_flow : Plan → ℕ → Flow
kept_flow plan block =
    record {
      State = Since;
      nodes = plan.nodes;
      entry = plan.entry;
      arrows = arrows_in plan;
      start = untouched plan.blocks;
      step = λ n since. in_turn (after_touch_of plan block) (touches_in plan n) since;
      meet = meet_since plan.blocks;
      same = same_since;
      Ok = SinceFits plan.blocks block;
      Below = SinceLess plan.blocks;
    }

-- Rule 16.7: the passes within which every block settles: 65N + 1.
abbrev pub kept_passes : Plan → ℕ
kept_passes plan = plan.nodes * suc most_blocks + 1

-- Rule 16.7: the table that passes have settled at.
abbrev pub settled_at : {X : Type 0} → Outcome X → List (Cell X)
settled_at (settled passes table) = table
settled_at spent = []

-- Rules 16.6 and 16.7: the tightest table of one block. That passes do settle, and that it is the tightest, are laws (demand 2).
unfoldable pub kept_table : Plan → ℕ → List (Cell Since)
kept_table plan block = settled_at (settle (kept_flow plan block) (kept_passes plan))

-- Rule 16.8: where there is nothing, no block is touched and every set is empty.
abbrev pub since_of : ℕ → Cell Since → Since
since_of count blank = untouched count
since_of count (holds since) = since

-- Rule 16.1: what is held of a block on arrival at node n. The table of each block is worked out by itself, so that what is held of one
-- block never depends on what is held of another.
-- That this is what walks to the node do is a law of walks themselves (`Walked`).
abbrev pub since_at : Plan → ℕ → ℕ → Since
since_at plan n block = since_of plan.blocks (cell_at (kept_table plan block) n)

-- Rule 8.1: whether a touch of a block with this state is kept: fewer than A members.
unfoldable pub stays_by : Plan → ℕ → Since → Bool
stays_by plan block since = ltb (members plan.blocks since) ((columns_of plan).may_limit block)
