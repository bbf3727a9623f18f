-- What accepted bytes say, as statements: the header, what each node touches and where its arrows lead, byte by byte, and which blocks the
-- chart has, and their sets. Rules 1.2, 2.2, 2.4, 2.7, 2.8, 2.10 and 3.1 to 3.4 a second time: analysis and plain machine both go by a chart's
-- touches, blocks and sets, so neither would notice a wrong one; this would.
use Rattle.std.specs.Prelude.{ℕ, ◌+◌, ◌/◌, ◌%◌, ◌^◌, ◌<◌, Bool, true, false, List, [], ◌∷◌, ◌≡◌}
use Rattle.lists.specs.Lists.{Among}
use Rattle.blocks.specs.Exactly.{Exactly}
use Rattle.chart.specs.declared.headers.Header.{Header}
use Rattle.chart.specs.declared.headers.Start.TheVariants.{Unknown, Empty}
use Rattle.chart.specs.declared.headers.HeaderFields.{HeaderFields}
use Rattle.chart.specs.declared.records.RecordFields.{RecordFields}
use Rattle.chart.specs.Geometry.{set_of}
use Rattle.chart.specs.Record.{Touch, blocks_of}
use Rattle.chart.specs.Chart.{Chart, touches, arrows}
use Rattle.chart.specs.Bytes.{header_bytes, record_bytes}

-- Rule 1.2: a header says what its fields say.
pub record HeaderSays (fields : HeaderFields) (header : Header) : Type 0 where
  pub line : header.geometry.line ≡ fields.line
  pub sets : header.geometry.sets ≡ fields.sets
  pub ways : header.geometry.ways ≡ fields.ways
  pub unknown : fields.start ≡ 0 → header.start ≡ Unknown
  pub empty : fields.start ≡ 1 → header.start ≡ Empty
  pub nodes : header.nodes ≡ fields.nodes
  pub entry : header.entry ≡ fields.entry

-- Rule 2.10: byte k is one of those that a size code says.
pub record OneOf (size k : ℕ) : Type 0 where
  pub one : size ≡ 0 → k ≡ 0
  pub two : size ≡ 1 → k < 2
  pub four : size ≡ 2 → k < 4

-- Rules 3.1 and 3.3: what a reference touches, byte by byte. The block of its first byte comes first; if all its bytes lie there, that is all; if
-- one of them does not, the next block follows. So the block of every byte is touched, and no other.
pub record TouchesSay (fields : RecordFields) (line : ℕ) (write : Bool) (touches : List Touch) : Type 0 where
  pub one_line : ((k : ℕ) → OneOf fields.size k → (fields.address + k) / 2 ^ line ≡ fields.address / 2 ^ line)
      → touches ≡ record { block = fields.address / 2 ^ line; write = write } ∷ []
  pub two_lines : (k : ℕ)
      → OneOf fields.size k
      → ((fields.address + k) / 2 ^ line ≡ fields.address / 2 ^ line → ⊥)
      → touches ≡ record { block = fields.address / 2 ^ line; write = write } ∷ record { block = fields.address / 2 ^ line + 1; write = write } ∷ []
  pub every_byte : (k : ℕ) → OneOf fields.size k → Among ((fields.address + k) / 2 ^ line) (blocks_of touches)

-- Rules 2.2, 3.1 and 3.3: which blocks each kind touches. Rule 2.4: where the arrows that are used lead, the first first.
pub record NodeSays (fields : RecordFields) (line : ℕ) (touches : List Touch) (leads : List ℕ) : Type 0 where
  -- rules 2.2 and 2.7
  pub step : fields.kind ≡ 0 → touches ≡ []
  pub read : fields.kind ≡ 1 → TouchesSay fields line false touches
  -- rules 2.2 and 2.8: the blocks that a read would touch
  pub write : fields.kind ≡ 2 → TouchesSay fields line true touches
  pub no_arrow : fields.outs ≡ 0 → leads ≡ []
  pub one_arrow : fields.outs ≡ 1 → leads ≡ fields.first ∷ []
  pub two_arrows : fields.outs ≡ 2 → leads ≡ fields.first ∷ fields.second ∷ []

-- What the bytes of a chart say.
pub record Says (bytes : List ℕ) (chart : Chart) : Type 0 where
  pub header : HeaderSays (header_bytes bytes) chart.header
  pub nodes : (n : ℕ) → n < chart.header.nodes → NodeSays (record_bytes bytes n) chart.header.geometry.line (touches chart n) (arrows chart n)
  -- rule 3.4
  pub blocks : Exactly (λ n. blocks_of (touches chart n)) chart.header.nodes chart.blocks
  -- rule 3.2, with the S of the bytes
  pub sets : (block : ℕ) → set_of chart.header.geometry block ≡ block % 2 ^ (header_bytes bytes).sets
