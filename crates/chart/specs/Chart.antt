-- A chart whole, and refusals 1 to 10 of any bytes. Rules 1.1, 2.1, 2.2, 2.4, 3.3, 3.4, 11.0, 11.9 and 11.10;
-- rules 11.1 to 11.8 are the header's.
-- Choices: what is said of records goes by fields, wherever they come from, and bytes come last; a chart has a node for every number, and no
-- answer depends on those from N on.
use Rattle.std.specs.Prelude.{ℕ, Bool, not, List, [], ◌∷◌, ◌++◌, length, ltb}
use Rattle.lists.specs.Choice.{Case, ◌⇒◌, first_case, first}
use Rattle.blocks.specs.Blocks.{gathered, overfull}
use Rattle.chart.specs.declared.shape.Geometry.{Geometry}
use Rattle.chart.specs.declared.headers.HeaderFields.{HeaderFields}
use Rattle.chart.specs.declared.headers.Header.{Header}
use Rattle.chart.specs.declared.records.RecordFields.{RecordFields}
use Rattle.chart.specs.declared.records.Node.{Node}
use Rattle.chart.specs.declared.records.Reference.{Reference}
use Rattle.refusals.specs.declared.Refusal.{Refusal}
use Rattle.refusals.specs.declared.Refusal.TheVariants.{BrokenRecord, TooManyBlocks}
use Rattle.chart.specs.Layout.{record_word}
use Rattle.chart.specs.Geometry.{most_blocks}
use Rattle.chart.specs.Header.{header_of, header_cases, header_in, bytes_cases}
use Rattle.chart.specs.Record.{record_fields, record_keeps, record_of, node_of, arrows_of, Touch, touches_of, blocks_of}

-- What an accepted chart says.
pub record Chart : Type 0 where
  pub header : Header
  pub node : ℕ → Node Reference
  pub blocks : List ℕ

-- ---- of a header and the fields of each node's record, wherever they come from

-- Rule 3.3: what node n touches, and the blocks of that.
abbrev pub touches_at : Geometry → (ℕ → RecordFields) → ℕ → List Touch
touches_at geometry fields_at n = touches_of geometry (record_of (fields_at n))

abbrev pub blocks_at : Geometry → (ℕ → RecordFields) → ℕ → List ℕ
blocks_at geometry fields_at n = blocks_of (touches_at geometry fields_at n)

-- Rule 3.4: the chart's blocks are those of nodes 0 to N - 1.
abbrev pub chart_of : (ℕ → RecordFields) → Header → Chart
chart_of fields_at header =
    record {
      header = header;
      node = λ n. node_of (fields_at n);
      blocks = gathered (blocks_at header.geometry fields_at) header.nodes;
    }

-- Rule 11.9: whether node n's record breaks a rule.
abbrev pub broken_at : (ℕ → RecordFields) → ℕ → ℕ → Bool
broken_at fields_at nodes n = not (record_keeps nodes (fields_at n))

-- Rule 11.9: the first such node, or N.
unfoldable pub first_broken : (ℕ → RecordFields) → ℕ → ℕ
first_broken fields_at nodes = first nodes (broken_at fields_at nodes)

-- Rule 11.10: whether nodes 0 to n bring too many blocks.
abbrev pub overfull_at : Geometry → (ℕ → RecordFields) → ℕ → Bool
overfull_at geometry fields_at n = overfull most_blocks (blocks_at geometry fields_at) n

-- Rule 11.10: the node that brings the one too many, or N.
unfoldable pub first_overfull : (ℕ → RecordFields) → Geometry → ℕ → ℕ
first_overfull fields_at geometry nodes = first nodes (overfull_at geometry fields_at)

-- Rules 11.9 and 11.10, in their order.
abbrev pub record_cases : (ℕ → RecordFields) → Header → List (Case Refusal)
record_cases fields_at header =
    (ltb (first_broken fields_at header.nodes) header.nodes ⇒ BrokenRecord (first_broken fields_at header.nodes))
    ∷ (ltb (first_overfull fields_at header.geometry header.nodes) header.nodes ⇒ TooManyBlocks (first_overfull fields_at header.geometry header.nodes))
    ∷ []

-- A chart, or why there is none.
pub data Read : Type 0 where
  accepted : Chart → Read
  refused : Refusal → Read

-- What a header and records under it are.
abbrev pub records_read : (ℕ → RecordFields) → Header → Read
records_read fields_at header = first_case refused (record_cases fields_at header) (accepted (chart_of fields_at header))

-- Rules 11.2 to 11.10, in the order of their numbers, of a header's fields and those of each record. `long` says whether the length is N's.
-- Behind rule 11.1 these are the reader's (`chart_cases`), and the writer asks them of what it is given.
abbrev pub field_cases : HeaderFields → Bool → (ℕ → RecordFields) → List (Case Refusal)
field_cases fields long fields_at = header_cases fields long ++ record_cases fields_at (header_of fields)

-- ---- of any bytes

-- Rules 1.1 and 2.1: the fields of node n's record.
abbrev pub records_in : List ℕ → ℕ → RecordFields
records_in bytes n = record_fields (record_word bytes n)

-- Rules 2.1 and 2.2: what they say.
abbrev pub node_at : List ℕ → ℕ → Node Reference
node_at bytes n = node_of (records_in bytes n)

-- The chart that bytes hold, where nothing below refuses them.
abbrev pub chart_in : List ℕ → Chart
chart_in bytes = chart_of (records_in bytes) (header_in bytes)

-- Rule 11.0: refusals 1 to 10, in the order of their numbers.
abbrev pub chart_cases : List ℕ → List (Case Refusal)
chart_cases bytes = bytes_cases bytes ++ record_cases (records_in bytes) (header_in bytes)

-- Rule 11.0: what any bytes read as, the first refusal that applies or a chart.
unfoldable pub read_chart : List ℕ → Read
read_chart bytes = first_case refused (chart_cases bytes) (accepted (chart_in bytes))

-- ---- of an accepted chart

-- Rule 2.4: where a node's arrows lead.
abbrev pub arrows : Chart → ℕ → List ℕ
arrows chart n = arrows_of (chart.node n).targets

-- Rule 3.3: what it touches, in turn.
abbrev pub touches : Chart → ℕ → List Touch
touches chart n = touches_of chart.header.geometry (chart.node n).what

-- Rule 3.4: how many blocks there are, B.
abbrev pub block_count : Chart → ℕ
block_count chart = length chart.blocks
