-- What the analysis leaves and the report shows, at every node, column and place, however large. A class that is put down otherwise from some node on
-- would pass every sounding, and no demand would notice one that says less. Rules 12.2, 12.3, 14.1 and 14.2. `leaving` in proofs/Leaving.antt proves it.
use Rattle.std.specs.Prelude.{ℕ, ◌*◌, List, ◌++◌, ◌≡◌, length, get_or, drop, replicate}
use Rattle.lists.specs.Lists.{written}
use Rattle.chart.specs.Chart.{Chart}
use Rattle.chart.specs.Header.{header_in}
use Rattle.cache.specs.Ages.{Ages}
use Rattle.flow.specs.Flow.{Cell}
use Rattle.ages.specs.Plan.{Plan}
use Rattle.ages.specs.Charted.{block_at}
use Rattle.tables.specs.Lent.{lent_of}
use Rattle.classes.specs.Class.{table_classes}
use Rattle.analysis.specs.Analysis.{Buffers, Left, filled_by, filled_by_zeros}
use Rattle.report.specs.Report.{report_of, report_left}

pub record Leaving : Type 0 where
  -- rule 12.2: each buffer's used part, and behind it what was lent
  pub blocks_left : (plan : Plan) (blocks : List ℕ) (table : List (Cell Ages)) (lent : Buffers)
      → (filled_by plan blocks table lent).blocks ≡ blocks ++ drop (length blocks) lent.blocks
  pub must_left : (plan : Plan) (blocks : List ℕ) (table : List (Cell Ages)) (lent : Buffers)
      → (filled_by plan blocks table lent).must ≡ written (lent_of plan table).must lent.must
  pub may_left : (plan : Plan) (blocks : List ℕ) (table : List (Cell Ages)) (lent : Buffers)
      → (filled_by plan blocks table lent).may ≡ written (lent_of plan table).may lent.may
  pub marks_left : (plan : Plan) (blocks : List ℕ) (table : List (Cell Ages)) (lent : Buffers)
      → (filled_by plan blocks table lent).marks ≡ written (lent_of plan table).marks lent.marks
  pub classes-left : (plan : Plan) (blocks : List ℕ) (table : List (Cell Ages)) (lent : Buffers)
      → (filled_by plan blocks table lent).classes ≡ table_classes plan table ++ drop (2 * plan.nodes) lent.classes
  -- rule 12.3: after refusal 12 the block list is there, and all else that is used is 0
  pub blocks-listed : (plan : Plan) (blocks : List ℕ) (lent : Buffers) → (filled_by_zeros plan blocks lent).blocks ≡ blocks ++ drop (length blocks) lent.blocks
  pub must_cleared : (plan : Plan) (blocks : List ℕ) (lent : Buffers) → (filled_by_zeros plan blocks lent).must ≡ written (replicate (plan.nodes * plan.blocks) 0) lent.must
  pub may_cleared : (plan : Plan) (blocks : List ℕ) (lent : Buffers) → (filled_by_zeros plan blocks lent).may ≡ written (replicate (plan.nodes * plan.blocks) 0) lent.may
  pub marks_cleared : (plan : Plan) (blocks : List ℕ) (lent : Buffers) → (filled_by_zeros plan blocks lent).marks ≡ written (replicate plan.nodes 0) lent.marks
  pub classes_cleared : (plan : Plan) (blocks : List ℕ) (lent : Buffers) → (filled_by_zeros plan blocks lent).classes ≡ written (replicate (2 * plan.nodes) 0) lent.classes
  -- rule 12.2: the ages in a column are those of the block at that place of the list
  pub column_blocks : (chart : Chart) (column : ℕ) → block_at chart column ≡ get_or chart.blocks column 0
  -- rules 14.1 and 14.2: the classes that are shown are those that were left
  pub report_shows : (bytes : List ℕ) (left : Left) → report_left bytes left ≡ report_of (header_in bytes).nodes left.buffers.classes left.answer
