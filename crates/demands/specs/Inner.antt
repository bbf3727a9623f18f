-- What the laws that lead to the demands ask of one another: an analysis that settled, and a node of a walk that is arrived at.
-- Nothing here is a rule of the tool: laws and contracts of inner functions speak of it.
use Rattle.std.specs.Prelude.{ℕ, ◌<◌, false, List, ◌≡◌}
use Rattle.chart.specs.Record.{Touch}
use Rattle.chart.specs.Chart.{Chart, touches, block_count}
use Rattle.cache.specs.Ages.{Ages}
use Rattle.flow.specs.Flow.{Cell, holds, cell_at}
use Rattle.flow.specs.Pass.{settled, settle}
use Rattle.ages.specs.Charted.{column_touch, plan_of, ages_flow}
use Rattle.classes.specs.Class.{Whole, class_of}
use Rattle.machine.specs.Machine.{plain_machine, Contents, AgesTrue}
use Rattle.machine.specs.Keeping.{touch_whole}
use Rattle.costs.specs.Costs.{classes_at}
use Rattle.costs.specs.Laws.{RightAt, ToldAt}
use Rattle.tables.specs.Lent.{Lent, ages_at, table_of}
use Rattle.analysis.specs.Analysis.{Buffers, buffers_short, filled_by, analysed, settled_after}
use Rattle.demands.specs.Demand3.{whole_in}

-- An analysis that settled: with room, at this table, which it leaves.
pub record Done (bytes : List ℕ) (chart : Chart) (allowance : ℕ) (lent : Buffers) (passes blocks : ℕ) : Type 0 where
  pub room : buffers_short (plan_of chart) lent ≡ false
  pub table : List (Cell Ages)
  pub outcome : settle (ages_flow chart) allowance ≡ settled passes table
  pub count_is : blocks ≡ block_count chart
  pub left : analysed bytes allowance lent ≡ record { answer = settled_after passes (block_count chart); buffers = filled_by (plan_of chart) chart.blocks table lent }

-- The class of a touch of a block.
abbrev pub touch_class : Chart → Touch → Whole → ℕ
touch_class chart touch whole = class_of (plan_of chart) (column_touch chart touch) whole

-- A table's node is right where the machine arrives with these contents; and its classes are all hits and misses.
abbrev pub RightHere : (chart : Chart) → Lent → ℕ → Contents chart → Type 0
RightHere chart table =
    RightAt (plain_machine chart) (touch_class chart) (touch_whole chart) (touches chart) chart.header.nodes (classes_at (plan_of chart)) (whole_in chart table) (table_of (plan_of chart) table)

abbrev pub ToldHere : (chart : Chart) → Lent → ℕ → Contents chart → Type 0
ToldHere chart table =
    ToldAt (plain_machine chart) (touch_class chart) (touch_whole chart) (touches chart) chart.header.nodes (classes_at (plan_of chart)) (whole_in chart table) (table_of (plan_of chart) table)

-- The node is marked, and its row bounds the ages of the contents that the machine arrives with.
pub record Arrives (chart : Chart) (table : Lent) (n : ℕ) (contents : Contents chart) : Type 0 where
  pub inside : n < chart.header.nodes
  pub marked : cell_at (table_of (plan_of chart) table) n ≡ holds (ages_at (plan_of chart) table n)
  pub bounds : AgesTrue chart (ages_at (plan_of chart) table n) contents
