-- The plan of a chart, and the flow of its ages. Rules 2.4, 3.2, 3.3, 6.1 to 6.4, 9.6 and 12.2, for what the
-- plan takes of a chart.
-- Choices: a column's key is the first column of the same set, which is all that a touch asks, and below 64; both limits of a column are A; a
-- block that the chart does not have would get a column too, but no node touches one.
use Rattle.std.specs.Prelude.{ℕ, Bool, true, false, map, get_or, eqb}
use Rattle.lists.specs.Choice.{first}
use Rattle.lists.specs.Lists.{list_of}
use Rattle.blocks.specs.Blocks.{place_in}
use Rattle.chart.specs.declared.headers.Start.{Start}
use Rattle.chart.specs.declared.headers.Start.TheVariants.{Unknown, Empty}
use Rattle.chart.specs.Geometry.{set_of, passes_for}
use Rattle.chart.specs.Record.{Touch}
use Rattle.chart.specs.Chart.{Chart, arrows, touches, block_count}
use Rattle.cache.specs.Ages.{Ages}
use Rattle.flow.specs.Flow.{Flow}
use Rattle.ages.specs.Plan.{ColumnTouch, PlanNode, Plan, after_touch, plan_flow}

-- Rule 12.2: the ages of a node stand in the order of the blocks, so that a block's column is its place in their list.
abbrev pub column_of : Chart → ℕ → ℕ
column_of chart block = place_in chart.blocks block

-- Rule 12.2, backwards: the block of a column.
abbrev pub block_at : Chart → ℕ → ℕ
block_at chart column = get_or chart.blocks column 0

-- Rule 3.2: the set of a column's block.
abbrev pub set_at : Chart → ℕ → ℕ
set_at chart column = set_of chart.header.geometry (block_at chart column)

-- Rule 3.2, by columns: the first one of the same set. Two have one key exactly if their blocks have one set (proofs/Charting.antt).
abbrev pub key_at : Chart → ℕ → ℕ
key_at chart column = first column (λ earlier. eqb (set_at chart earlier) (set_at chart column))

-- Rule 3.3, by columns: a touch of a block as one of its column.
abbrev pub column_touch : Chart → Touch → ColumnTouch
column_touch chart touch = record { column = column_of chart touch.block; write = touch.write }

-- Rules 2.4 and 3.3, by columns: where a node's arrows lead, and what it touches.
abbrev pub node_plan : Chart → ℕ → PlanNode
node_plan chart n = record { touches = map (column_touch chart) (touches chart n); arrows = arrows chart n }

-- Rule 6.2: which of the two starts it is.
abbrev pub is_empty : Start → Bool
is_empty Unknown = false
is_empty Empty = true

-- Rule 6.1: both limits are A in every column.
abbrev pub plan_of : Chart → Plan
plan_of chart =
    record {
      nodes = chart.header.nodes;
      blocks = block_count chart;
      entry = chart.header.entry;
      empty = is_empty chart.header.start;
      keys = list_of (block_count chart) (key_at chart);
      must_limits = list_of (block_count chart) (λ column. chart.header.geometry.ways);
      may_limits = list_of (block_count chart) (λ column. chart.header.geometry.ways);
      steps = list_of chart.header.nodes (node_plan chart);
    }

-- What passes work on, of a chart.
abbrev pub ages_flow : Chart → Flow
ages_flow chart = plan_flow (plan_of chart)

-- Rules 6.3 and 6.4: the ages after a touch of a block.
abbrev pub touched_by : Chart → Touch → Ages → Ages
touched_by chart touch a = after_touch (plan_of chart) (column_touch chart touch) a

-- Rule 9.6: the passes within which a chart settles.
abbrev pub most_passes : Chart → ℕ
most_passes chart = passes_for chart.header.nodes (block_count chart) chart.header.geometry.ways
