-- Demand 2, as those who ordered the tool put it, with the numbers of the rules: "Ages are those of the published LRU must and may analysis. A
-- checker passes a table exactly when it meets the equations of rules 7.2 to 7.6. The built-in analysis is refused only as rule 12.3 lists;
-- otherwise its table passes and is the tightest of all that pass."
-- (The ages are those of that analysis: `published`, of the definitions in cache/specs/Ages.antt, here over columns whose keys stand for their
-- blocks' sets, as `keys_sets` and `sets_keys` say, in the shape that the bytes say, `shape_said`. That the analysis is refused only as rule 12.3
-- lists is `Demand1.readings` and `Demand1.analysis`.)
-- The sets of blocks that stay are defined and checked one block at a time: a test says yes exactly of the tables of one block that pass their own
-- equations (`kept_yes`, `yes_kept`); each block's table settles, passes, is the tightest of those that do, and has what walks do and nothing else
-- (`kept_settled`).
-- It speaks of rules 1.2, 2.4, 3.2, 3.3, 4.6, 4.7, 6.2 to 6.6, 7.3, 7.7 to 7.9, 8.1, 9.5, 9.6, 12.2, 12.4, 12.5, 13.1 to 13.3, 16.1 and 16.3 to 16.8. Proved as
-- `demand2` in proofs/Demand2.antt.
use Rattle.std.specs.Prelude.{ℕ, suc, ◌+◌, ◌*◌, ◌%◌, ◌^◌, ◌≤◌, ◌<◌, ◌≡◌, true, false, List, map}
use Rattle.chart.specs.Geometry.{most_nodes, most_blocks, all_passes}
use Rattle.chart.specs.Chart.{Chart, accepted, read_chart, touches, arrows, block_count}
use Rattle.flow.specs.Flow.{cell_at, Table}
use Rattle.flow.specs.Passing.{Marked, Passing, Tightest}
use Rattle.flow.specs.Pass.{settled, settle, pass, after_passes}
use Rattle.flow.specs.Walk.{in_turn, Reached}
use Rattle.chart.specs.Bytes.{AreBytes, header_bytes}
use Rattle.lists.specs.Lists.{Among}
use Rattle.chart.specs.Record.{Touch}
use Rattle.ages.specs.Plan.{columns_of, touches_in, arrows_in}
use Rattle.ages.specs.Charted.{block_at, set_at, key_at, column_touch, plan_of, ages_flow, touched_by, most_passes}
use Rattle.kept.specs.Since.{Since}
use Rattle.kept.specs.Kept.{after_touch_of, kept_flow, kept_table}
use Rattle.kept.specs.Checked.{block_passing}
use Rattle.kept.specs.Walked.{Walked}
use Rattle.cache.specs.Ages.{Ages}
use Rattle.cache.specs.Plain.{Cache, Formed, empty_cache}
use Rattle.cache.specs.Published.{AsPublished}
use Rattle.machine.specs.Machine.{ways_of, key_of, plain_machine}
use Rattle.tables.specs.Lent.{Lent, table_of, TablePasses}
use Rattle.analysis.specs.Analysis.{Buffers, buffers_short, filled_by, table_in, analysed, settled_after}
use Rattle.checker.specs.Checker.{check_says}
use Rattle.report.specs.Report.{taken, zero_buffers}
use Rattle.report.specs.Ending.{refuses}

-- The checker says yes.
abbrev pub CheckerYes : List ℕ → Lent → Type 0
CheckerYes bytes table = (check_says bytes table).yes ≡ 1

-- What holds of a chart, of the buffers lent and of the buffers left by an analysis that settled after so many passes.
pub record Settles (chart : Chart) (passes blocks : ℕ) (lent left : Buffers) : Type 0 where
  -- rule 12.4
  pub blocks_is : blocks ≡ block_count chart
  -- rule 9.5: the last pass that was made is the first without a change
  pub made : 0 < passes
  pub last : (k : ℕ) → suc k ≡ passes → (pass (ages_flow chart) (after_passes (ages_flow chart) k)).changed ≡ false
  pub earlier : (k : ℕ) → suc k < passes → (pass (ages_flow chart) (after_passes (ages_flow chart) k)).changed ≡ true
  -- rule 9.6
  pub count : passes ≤ most_passes chart
  -- rule 12.2: all five buffers, by the table after that many passes
  pub filled : left ≡ filled_by (plan_of chart) chart.blocks (after_passes (ages_flow chart) passes) lent
  pub table : table_of (plan_of chart) (table_in left) ≡ after_passes (ages_flow chart) passes
  -- "its table passes": rule 7.7
  pub table_passes : TablePasses (plan_of chart) (table_in left)
  -- "and is the tightest of all that pass": rule 7.8
  pub tightest : Tightest (ages_flow chart) (table_of (plan_of chart) (table_in left))
  -- rule 7.9
  pub marked_reached : (n : ℕ) → Marked (cell_at (table_of (plan_of chart) (table_in left)) n) → Reached (arrows chart) chart.header.entry n
  pub reached_marked : (n : ℕ) → Reached (arrows chart) chart.header.entry n → Marked (cell_at (table_of (plan_of chart) (table_in left)) n)

-- Rules 1.2, 3.2, 4.6, 4.7, 7.3 and 9.6 of one shape, that of the bytes: a set of the plain machine has A ways, the ages of every column of a plan
-- are at most A, a block's set is its number mod 2^S, and the start is empty or unknown. Where it is unknown, the machine may begin with any lists
-- of its form.
pub record ShapeSaid (bytes : List ℕ) (chart : Chart) : Type 0 where
  pub must-limits : (column : ℕ) → column < block_count chart → (columns_of (plan_of chart)).must_limit column ≡ (header_bytes bytes).ways
  pub may-limits : (column : ℕ) → column < block_count chart → (columns_of (plan_of chart)).may_limit column ≡ (header_bytes bytes).ways
  pub machine_ways : (set : ℕ) → ways_of chart set ≡ (header_bytes bytes).ways
  pub machine_sets : (block : ℕ) → key_of chart block ≡ block % 2 ^ (header_bytes bytes).sets
  pub column_sets : (column : ℕ) → set_at chart column ≡ block_at chart column % 2 ^ (header_bytes bytes).sets
  pub plan_unknown : (header_bytes bytes).start ≡ 0 → (plan_of chart).empty ≡ false
  pub plan_empty : (header_bytes bytes).start ≡ 1 → (plan_of chart).empty ≡ true
  pub unknown_begins : (header_bytes bytes).start ≡ 0
      → (cache : Cache)
      → Formed (λ set. (header_bytes bytes).ways) (λ block. block % 2 ^ (header_bytes bytes).sets) cache
      → (plain_machine chart).Begins cache
  pub empty_begins : (header_bytes bytes).start ≡ 1 → (plain_machine chart).Begins empty_cache
  pub most-passes : most_passes chart ≡ chart.header.nodes * (1 + 2 * block_count chart * (header_bytes bytes).ways) + 1

-- Rules 2.4, 3.2 and 3.3: a plan has what its chart has, node by node and column by column, and a touch's column is that of its block.
pub record Planned (chart : Chart) : Type 0 where
  pub entry_is : (plan_of chart).entry ≡ chart.header.entry
  pub nodes_are : (plan_of chart).nodes ≡ chart.header.nodes
  pub blocks_are : (plan_of chart).blocks ≡ block_count chart
  pub arrows_are : (n : ℕ) → n < chart.header.nodes → arrows_in (plan_of chart) n ≡ arrows chart n
  pub touches_are : (n : ℕ) → n < chart.header.nodes → touches_in (plan_of chart) n ≡ map (column_touch chart) (touches chart n)
  pub keys_are : (column : ℕ) → column < block_count chart → (columns_of (plan_of chart)).key column ≡ key_at chart column
  pub columns_hold : (n : ℕ)
      → n < chart.header.nodes
      → (touch : Touch)
      → Among touch (touches chart n)
      → ((column_touch chart touch).column < block_count chart) × (block_at chart (column_touch chart touch).column ≡ touch.block)

-- What holds of the table of one block of a chart, known by its column.
pub record KeptSettles (chart : Chart) (column : ℕ) : Type 0 where
  -- rule 16.7: its own passes settle there, and never need more than 65N + 1
  pub passes : ℕ
  pub settles : settle (kept_flow (plan_of chart) column) (65 * chart.header.nodes + 1) ≡ settled passes (kept_table (plan_of chart) column)
  pub count : (allowance made : ℕ) (table : Table (kept_flow (plan_of chart) column))
      → settle (kept_flow (plan_of chart) column) allowance ≡ settled made table
      → made ≤ 65 * chart.header.nodes + 1
  pub one_made : 0 < passes
  pub last : (k : ℕ) → suc k ≡ passes → (pass (kept_flow (plan_of chart) column) (after_passes (kept_flow (plan_of chart) column) k)).changed ≡ false
  pub earlier : (k : ℕ) → suc k < passes → (pass (kept_flow (plan_of chart) column) (after_passes (kept_flow (plan_of chart) column) k)).changed ≡ true
  -- rule 16.6: it passes its own equations, and is the tightest of those that do
  pub table_passes : Passing (kept_flow (plan_of chart) column) (kept_table (plan_of chart) column)
  pub table_yes : block_passing (plan_of chart) column (kept_table (plan_of chart) column) ≡ true
  pub tightest : Tightest (kept_flow (plan_of chart) column) (kept_table (plan_of chart) column)
  -- rules 16.1 and 16.8: at each node it has what walks to that node do, and nothing else
  pub walked : (n : ℕ) → Walked (plan_of chart) column n

pub record Demand2 : Type 0 where
  -- rules 6.2 to 6.4, 6.6 and 8.1: the ages are those of the published analysis
  pub published : AsPublished
  -- rules 3.3 and 6.5: touch by touch, the state after a node is that after all its touches
  pub touch_by_touch : (chart : Chart) (n : ℕ) → n < chart.header.nodes → (a : Ages) → (ages_flow chart).step n a ≡ in_turn (touched_by chart) (touches chart n) a
  pub shape_said : (bytes : List ℕ) (chart : Chart) → AreBytes bytes → read_chart bytes ≡ accepted chart → ShapeSaid bytes chart
  pub planned : (bytes : List ℕ) (chart : Chart) → read_chart bytes ≡ accepted chart → Planned chart
  -- two columns have one key exactly if their blocks are of one set (rule 3.2)
  pub keys_sets : (chart : Chart) (i j : ℕ) → key_at chart i ≡ key_at chart j → set_at chart i ≡ set_at chart j
  pub sets_keys : (chart : Chart) (i j : ℕ) → set_at chart i ≡ set_at chart j → key_at chart i ≡ key_at chart j
  -- the checker says yes exactly if the table passes (rules 7.7 and 12.5)
  pub checker_yes : (bytes : List ℕ) (chart : Chart) (table : Lent)
      → read_chart bytes ≡ accepted chart
      → CheckerYes bytes table
      → TablePasses (plan_of chart) table
  pub yes_checker : (bytes : List ℕ) (chart : Chart) (table : Lent)
      → read_chart bytes ≡ accepted chart
      → TablePasses (plan_of chart) table
      → CheckerYes bytes table
  -- an analysis that settles leaves the tightest table (rule 7.8), which the checker passes
  pub settled : (bytes : List ℕ) (chart : Chart) (allowance passes blocks : ℕ) (lent : Buffers)
      → read_chart bytes ≡ accepted chart
      → (analysed bytes allowance lent).answer ≡ settled_after passes blocks
      → Settles chart passes blocks lent (analysed bytes allowance lent).buffers
  pub settled_yes : (bytes : List ℕ) (allowance passes blocks : ℕ) (lent : Buffers)
      → (analysed bytes allowance lent).answer ≡ settled_after passes blocks
      → CheckerYes bytes (table_in (analysed bytes allowance lent).buffers)
  -- rule 9.6: an accepted chart with room settles within every allowance that is no less than its number
  pub enough : (bytes : List ℕ) (chart : Chart) (allowance : ℕ) (lent : Buffers)
      → read_chart bytes ≡ accepted chart
      → buffers_short (plan_of chart) lent ≡ false
      → most_passes chart ≤ allowance
      → (passes : ℕ) × ((analysed bytes allowance lent).answer ≡ settled_after passes (block_count chart))
  -- so the analysis settles with the program's allowance (rule 13.2) and buffers, which have room for the largest chart
  pub program_settles : (input : List ℕ) (chart : Chart)
      → read_chart (taken input) ≡ accepted chart
      → (passes : ℕ) × ((analysed (taken input) all_passes (zero_buffers most_nodes most_blocks)).answer ≡ settled_after passes (block_count chart))
  -- so the program refuses no accepted chart (rules 13.1 to 13.3)
  pub program_accepts : (input : List ℕ) (chart : Chart) → read_chart (taken input) ≡ accepted chart → refuses input ≡ false
  -- two allowances within which it settles agree in everything
  pub agree : (bytes : List ℕ) (one other passes passes' blocks blocks' : ℕ) (lent : Buffers)
      → (analysed bytes one lent).answer ≡ settled_after passes blocks
      → (analysed bytes other lent).answer ≡ settled_after passes' blocks'
      → analysed bytes one lent ≡ analysed bytes other lent
  -- rules 16.3 and 16.4: touch by touch, what is held of a block after a node is that after all its touches
  pub kept_touch_by_touch : (chart : Chart) (column n : ℕ)
      → n < chart.header.nodes
      → (since : Since)
      → (kept_flow (plan_of chart) column).step n since
      ≡ in_turn (λ touch. after_touch_of (plan_of chart) column (column_touch chart touch)) (touches chart n) since
  -- rule 16.6: the test of one block's table says yes exactly if it passes
  pub kept_yes : (chart : Chart) (column : ℕ) (table : Table (kept_flow (plan_of chart) column))
      → block_passing (plan_of chart) column table ≡ true
      → Passing (kept_flow (plan_of chart) column) table
  pub yes_kept : (chart : Chart) (column : ℕ) (table : Table (kept_flow (plan_of chart) column))
      → Passing (kept_flow (plan_of chart) column) table
      → block_passing (plan_of chart) column table ≡ true
  -- rules 16.6 and 16.7: the table of each block
  pub kept_settled : (bytes : List ℕ) (chart : Chart) (column : ℕ)
      → read_chart bytes ≡ accepted chart
      → column < block_count chart
      → KeptSettles chart column
