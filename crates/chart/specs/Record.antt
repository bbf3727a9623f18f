-- A node's record: its fields, what is allowed in them, what it touches and where its arrows lead. Rules 2.1 to 2.4, 2.7 to 2.12 and 3.3.
-- Choices: one test for all that a record has to keep, of any fields, whether or not a word can hold them; touches are a list, of none, one or two.
-- A record that is refused reads as something too: a kind above 2 as a read, more than two arrows as two, a size code above 2 as four bytes.
use Rattle.std.specs.Prelude.{ℕ, ◌+◌, ◌-◌, ◌^◌, ◌<◌, Bool, not, cond, ◌&&◌, ◌||◌, List, [], ◌∷◌, map, ltb, leb, eqb, None, Option, Some}
use Rattle.chart.specs.declared.shape.Geometry.{Geometry}
use Rattle.chart.specs.declared.records.RecordFields.{RecordFields}
use Rattle.chart.specs.declared.records.Targets.{Targets}
use Rattle.chart.specs.declared.records.Node.{Node}
use Rattle.chart.specs.Layout.{field, record_widths}
use Rattle.chart.specs.Geometry.{block_of}
use Rattle.chart.specs.declared.records.Reference.{Reference}

-- Rule 2.1: the fields of a record's word, in order.
abbrev pub record_fields : ℕ → RecordFields
record_fields word =
    record {
      kind = field record_widths 0 word;
      address = field record_widths 1 word;
      outs = field record_widths 2 word;
      first = field record_widths 3 word;
      second = field record_widths 4 word;
      size = field record_widths 5 word;
    }

-- Rule 2.4, of one arrow.
abbrev pub arrow_keeps : ℕ → Bool → ℕ → Bool
arrow_keeps nodes used target = cond used (ltb target nodes) (eqb target 0)

-- Rule 2.9, broken: two arrows are used, and both lead to one node.
abbrev pub twins : RecordFields → Bool
twins fields = ltb 1 fields.outs && eqb fields.first fields.second

-- Rule 2.10: how many bytes a size code says.
abbrev pub bytes_of : ℕ → ℕ
bytes_of code = cond (eqb code 0) 1 (cond (eqb code 1) 2 4)

-- Rules 2.10 and 2.12: the address of the last of them.
abbrev pub last_byte : RecordFields → ℕ
last_byte fields = fields.address + bytes_of fields.size - 1

-- What a record keeps in a chart of so many nodes: the kind (rules 2.1 and 2.2), a last byte within 32 bits (rule 2.12), and so its address, a bare
-- step's address and size code (rules 2.3 and 2.11), the number of arrows (rule 2.1), each arrow (rule 2.4), both together (rule 2.9), the size
-- code (rule 2.1).
unfoldable pub record_keeps : ℕ → RecordFields → Bool
record_keeps nodes fields =
    leb fields.kind 2
    && (ltb (last_byte fields) (2 ^ 32)
    && ((not (eqb fields.kind 0) || (eqb fields.address 0 && eqb fields.size 0))
    && (leb fields.outs 2
    && (arrow_keeps nodes (ltb 0 fields.outs) fields.first
    && (arrow_keeps nodes (ltb 1 fields.outs) fields.second
    && (not (twins fields)
    && leb fields.size 2))))))

-- Rules 2.2 and 2.10: what a record is by its kind, and from which byte to which a reference goes.
unfoldable pub record_of : RecordFields → Option Reference
record_of fields =
    cond (eqb fields.kind 0) None (Some (record { write = eqb fields.kind 2; address = fields.address; last = last_byte fields }))

-- Rule 2.1: how many arrows lead out, and the two fields for targets.
abbrev pub targets_of : RecordFields → Targets
targets_of fields = record { outs = fields.outs; first = fields.first; second = fields.second }

-- Rules 2.1 and 2.2: what a node does and where it leads.
abbrev pub node_of : RecordFields → Node Reference
node_of fields = record { what = record_of fields; targets = targets_of fields }

-- Rule 2.4: the targets of the arrows that are used, the first first.
unfoldable pub arrows_of : Targets → List ℕ
arrows_of targets =
    cond (eqb targets.outs 0) [] (cond (eqb targets.outs 1) (targets.first ∷ []) (targets.first ∷ targets.second ∷ []))

-- Rule 2.4: the arrows that are used lead to nodes.
pub record Leads (nodes : ℕ) (targets : Targets) : Type 0 where
  pub first_in : 0 < targets.outs → targets.first < nodes
  pub second_in : 1 < targets.outs → targets.second < nodes

-- Rule 2.12: a reference ends within 32 bits. Every one of an accepted chart does.
abbrev pub Ends : Option Reference → Type 0
Ends None = Unit {0}
Ends (Some reference) = reference.last < 2 ^ 32

-- Rule 3.3: one touch of the cache, of which block; and whether by a write.
pub record Touch : Type 0 where
  pub block : ℕ
  pub write : Bool

-- Rule 3.3: the touches of a reference by its two blocks, the lower first, and then the upper if that is another.
abbrev pub both_touched : Bool → ℕ → ℕ → List Touch
both_touched write lower upper =
    record { block = lower; write = write }
    ∷ cond (eqb lower upper) [] (record { block = upper; write = write } ∷ [])

-- Rule 3.3: what a record touches; the lower block is the one in which the first byte lies, the upper one that in which the last byte lies. A bare
-- step has no touch, so nothing is done for it (rule 2.7); a write has a read's (rule 2.8), and the flag only says that it is one.
unfoldable pub touches_of : Geometry → Option Reference → List Touch
touches_of geometry None = []
touches_of geometry (Some reference) =
    both_touched reference.write (block_of geometry reference.address) (block_of geometry reference.last)

-- Rule 3.3: the blocks of touches, in turn.
abbrev pub blocks_of : List Touch → List ℕ
blocks_of touches = map (λ (touch : Touch). touch.block) touches
