-- When each of refusals 1 to 11 applies, as statements about fields, and those of 1 to 10 about bytes. Rules 11.1 to 11.11 a second time, with
-- rules 1.2, 1.3, 2.1 to 2.4, 2.9 to 2.12, 3.1, 3.3 and 3.4: the tests of `Header.antt`, `Record.antt` and `Chart.antt` run; these are read.
-- Demand 1 promises that the two agree, of bytes for the reader and of anything that is given for the writer. The limits of N, S, A and the
-- blocks are the geometry's on both sides: their numbers are sounded. Choices: a byte past the end counts as 0; any kind but 0 touches; of the
-- reader the agreement is said where all are bytes (`AreBytes`).
use Rattle.std.specs.Prelude.{ℕ, suc, ◌+◌, ◌*◌, ◌/◌, ◌^◌, ◌≤◌, ◌<◌, cond, List, [], ◌∷◌, ◌≡◌, length, eqb}
use Rattle.blocks.specs.Blocks.{gathered}
use Rattle.chart.specs.declared.headers.HeaderFields.{HeaderFields}
use Rattle.chart.specs.declared.records.RecordFields.{RecordFields}
use Rattle.refusals.specs.declared.Refusal.{Refusal}
use Rattle.refusals.specs.declared.Refusal.TheVariants.{TooShort, Edition, CacheShape, StartCode, NodeCount, EntryNode, SpareBits, Length, BrokenRecord, TooManyBlocks, ShortBuffer, Unsettled, NotPassing, BoundsLength, MissBelowHit, FloorAboveCeiling, FloorAtUnmarked, ImpossibleTimes, FactsLength, NumberOutOfRange, CertificateFails}
use Rattle.chart.specs.Geometry.{most_nodes, most_blocks, most_set_bits, most_ways}
use Rattle.chart.specs.Bytes.{header_bytes, record_bytes}

-- Rules 1.2 and 11.3: L, S and A are allowed.
pub record ShapeKeeps (fields : HeaderFields) : Type 0 where
  pub line_from : 2 ≤ fields.line
  pub line_to : fields.line ≤ 8
  pub sets_to : fields.sets ≤ most_set_bits
  pub ways_from : 1 ≤ fields.ways
  pub ways_to : fields.ways ≤ most_ways

-- Rules 2.1, 2.3, 2.4, 2.9, 2.11 and 2.12: what a record in a chart of so many nodes has to keep.
pub record RecordKeeps (nodes : ℕ) (fields : RecordFields) : Type 0 where
  -- rules 2.1 and 2.2
  pub kinds : fields.kind ≤ 2
  -- rules 2.10 and 2.12, by the size code: the last of one, two and four bytes has an address of 32 bits
  pub one_byte : fields.size ≡ 0 → fields.address < 2 ^ 32
  pub two_bytes : fields.size ≡ 1 → fields.address + 1 < 2 ^ 32
  pub four_bytes : fields.size ≡ 2 → fields.address + 3 < 2 ^ 32
  -- rules 2.3 and 2.11
  pub steps : fields.kind ≡ 0 → (fields.address ≡ 0) × (fields.size ≡ 0)
  -- rule 2.1
  pub arrows : fields.outs ≤ 2
  -- rule 2.4
  pub first_used : 1 ≤ fields.outs → fields.first < nodes
  pub first_unused : fields.outs ≡ 0 → fields.first ≡ 0
  pub second_used : 2 ≤ fields.outs → fields.second < nodes
  pub second_unused : fields.outs ≤ 1 → fields.second ≡ 0
  -- rule 2.9
  pub no_twins : 2 ≤ fields.outs → fields.first ≡ fields.second → ⊥
  -- rule 2.1
  pub sizes : fields.size ≤ 2

-- Rule 11.9: a node's record breaks a rule, and none before it does.
pub record FirstBroken (nodes : ℕ) (records : ℕ → RecordFields) (n : ℕ) : Type 0 where
  pub inside : n < nodes
  pub breaks : RecordKeeps nodes (records n) → ⊥
  pub earlier : (i : ℕ) → i < n → RecordKeeps nodes (records i)

-- Rules 2.10 and 3.1: the block of a reference's last byte, which is the first one, the second or the fourth. A size code above 2 counts as 2.
abbrev pub last_block_said : ℕ → RecordFields → ℕ
last_block_said line fields =
    cond (eqb fields.size 0)
    (fields.address / 2 ^ line)
    (cond (eqb fields.size 1) ((fields.address + 1) / 2 ^ line) ((fields.address + 3) / 2 ^ line))

-- Rules 3.1 and 3.3: the blocks that a record touches. None if it is a bare step, else that of the first byte, and that of the last if it is another.
abbrev pub record_blocks : ℕ → RecordFields → List ℕ
record_blocks line fields =
    cond (eqb fields.kind 0) []
    ((fields.address / 2 ^ line)
    ∷ cond (eqb (fields.address / 2 ^ line) (last_block_said line fields)) [] (last_block_said line fields ∷ []))

-- The blocks that nodes 0 to n - 1 touch; demand 1 promises that they are exactly these (`counted_blocks`).
abbrev pub blocks_before : ℕ → (ℕ → RecordFields) → ℕ → List ℕ
blocks_before line records n = gathered (λ i. record_blocks line (records i)) n

-- Rule 11.10: with node n there is a block too many, and before it there was none too many.
pub record FirstOver (nodes line : ℕ) (records : ℕ → RecordFields) (n : ℕ) : Type 0 where
  pub inside : n < nodes
  pub over : most_blocks < length (blocks_before line records (suc n))
  pub earlier : length (blocks_before line records n) ≤ most_blocks

-- Rules 11.1 to 11.11 of fields, wherever they come from: when each applies, whether or not another does too. What rows 1, 8 and 11 ask is not of the
-- fields, and is given: there are too few bytes, the length is the one for N, a buffer is short. The other rows are never of a chart alone.
abbrev pub Rows : Type 0 → Type 0 → Type 0 → HeaderFields → (ℕ → RecordFields) → Refusal → Type 0
Rows Few Long Short fields records TooShort = Few
Rows Few Long Short fields records Edition = fields.edition ≡ 1 → ⊥
Rows Few Long Short fields records CacheShape = ShapeKeeps fields → ⊥
Rows Few Long Short fields records StartCode = 1 < fields.start
Rows Few Long Short fields records NodeCount = (1 ≤ fields.nodes) × (fields.nodes ≤ most_nodes) → ⊥
Rows Few Long Short fields records EntryNode = fields.nodes ≤ fields.entry
Rows Few Long Short fields records SpareBits = (fields.first_spare ≡ 0) × (fields.second_spare ≡ 0) → ⊥
Rows Few Long Short fields records Length = Long → ⊥
Rows Few Long Short fields records (BrokenRecord n) = FirstBroken fields.nodes records n
Rows Few Long Short fields records (TooManyBlocks n) = FirstOver fields.nodes fields.line records n
Rows Few Long Short fields records ShortBuffer = Short
Rows Few Long Short fields records Unsettled = ⊥
Rows Few Long Short fields records NotPassing = ⊥
Rows Few Long Short fields records BoundsLength = ⊥
Rows Few Long Short fields records MissBelowHit = ⊥
Rows Few Long Short fields records (FloorAboveCeiling n) = ⊥
Rows Few Long Short fields records (FloorAtUnmarked n) = ⊥
Rows Few Long Short fields records ImpossibleTimes = ⊥
Rows Few Long Short fields records FactsLength = ⊥
Rows Few Long Short fields records NumberOutOfRange = ⊥
Rows Few Long Short fields records (CertificateFails n) = ⊥

-- Rules 11.1 to 11.10 of bytes, with the length of rule 1.3. The reader has no buffer.
abbrev pub Applies : List ℕ → Refusal → Type 0
Applies bytes refusal = Rows (length bytes < 8) (length bytes ≡ 8 + 8 * (header_bytes bytes).nodes) ⊥ (header_bytes bytes) (record_bytes bytes) refusal
