-- What inner functions promise among themselves: references that end (rule 2.12), blocks gathered in an array, and what a reader that accepts has
-- found. Nothing here is a rule of the tool: contracts of inner functions speak of it.
use Rattle.std.specs.Prelude.{ℕ, ◌<◌, cond, false, List, ◌≡◌, length, ltb, Result, Ok, Err}
use Rattle.lists.specs.Lists.{padded}
use Rattle.blocks.specs.Blocks.{gathered}
use Rattle.chart.specs.declared.shape.Geometry.{Geometry}
use Rattle.chart.specs.declared.headers.Header.{Header}
use Rattle.chart.specs.declared.records.RecordFields.{RecordFields}
use Rattle.refusals.specs.declared.Refusal.{Refusal}
use Rattle.refusals.specs.declared.Refusal.TheVariants.{TooManyBlocks}
use Rattle.chart.specs.Geometry.{most_blocks}
use Rattle.chart.specs.Record.{record_of, Ends}
use Rattle.chart.specs.Chart.{blocks_at, first_overfull, accepted, read_chart, chart_in, block_count}

-- References of the first nodes end within 32 bits, as rule 2.12 has it.
abbrev pub AllEnd : (ℕ → RecordFields) → ℕ → Type 0
AllEnd fields_at nodes = (n : ℕ) → n < nodes → Ends (record_of (fields_at n))

-- What gathering the blocks of all nodes answers, and the array after it where no node brings one too many.
pub record Gathers (fields_at : ℕ → RecordFields) (geometry : Geometry) (nodes : ℕ) (answer : Result ℕ Refusal) (array : List ℕ) : Type 0 where
  pub answered : answer ≡ cond (ltb (first_overfull fields_at geometry nodes) nodes) (Err (TooManyBlocks (first_overfull fields_at geometry nodes))) (Ok (length (gathered (blocks_at geometry fields_at) nodes)))
  pub laid : ltb (first_overfull fields_at geometry nodes) nodes ≡ false → array ≡ padded most_blocks (gathered (blocks_at geometry fields_at) nodes)

-- The bytes are an accepted chart's, and a header, a count of blocks and an array of them are that chart's.
pub record AcceptedAs (bytes : List ℕ) (header : Header) (count : ℕ) (array : List ℕ) : Type 0 where
  pub read : read_chart bytes ≡ accepted (chart_in bytes)
  pub header_is : header ≡ (chart_in bytes).header
  pub count_is : count ≡ block_count (chart_in bytes)
  pub array_is : array ≡ padded most_blocks (chart_in bytes).blocks
