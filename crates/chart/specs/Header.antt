-- The header: its fields, what is allowed in each, refusals 1 to 8, and what reading it answers.
-- Rules 1.1 to 1.3, 11.1 to 11.8, 12.1, 12.8 and 12.9.
-- Choices: the tests are of any fields, whether or not a word can hold them; every start code but 0 reads as empty, and those above 1 are
-- refused before; number and place are 0 where nothing is refused.
use Rattle.std.specs.Prelude.{◌≡◌, ℕ, Bool, not, cond, ◌&&◌, List, [], ◌∷◌, length, ltb, leb, eqb, Err, Ok, Result}
use Rattle.lists.specs.Choice.{Case, ◌⇒◌, first_case}
use Rattle.chart.specs.declared.shape.Geometry.{Geometry}
use Rattle.chart.specs.declared.headers.Start.{Start}
use Rattle.chart.specs.declared.headers.Start.TheVariants.{Unknown, Empty}
use Rattle.chart.specs.declared.headers.HeaderFields.{HeaderFields}
use Rattle.chart.specs.declared.headers.Header.{Header}
use Rattle.refusals.specs.declared.Refusal.{Refusal}
use Rattle.refusals.specs.declared.Refusal.TheVariants.{TooShort, Edition, CacheShape, StartCode, NodeCount, EntryNode, SpareBits, Length}
use Rattle.refusals.specs.Refusals.{number_of, place_of}
use Rattle.chart.specs.Layout.{word_at, chart_length, field, header_widths}
use Rattle.chart.specs.Geometry.{most_nodes, between, shape_allowed}

-- Rule 1.2: the fields of the header's word, in order.
abbrev pub header_fields : ℕ → HeaderFields
header_fields word =
    record {
      edition = field header_widths 0 word;
      line = field header_widths 1 word;
      sets = field header_widths 2 word;
      ways = field header_widths 3 word;
      start = field header_widths 4 word;
      first_spare = field header_widths 5 word;
      nodes = field header_widths 6 word;
      entry = field header_widths 7 word;
      second_spare = field header_widths 8 word;
    }

-- Rule 1.2: L, S and A.
abbrev pub geometry_of : HeaderFields → Geometry
geometry_of fields = record { line = fields.line; sets = fields.sets; ways = fields.ways }

-- Rule 1.2: the start of a code.
abbrev pub start_of : ℕ → Start
start_of code = cond (eqb code 0) Unknown Empty

-- Rules 1.2 and 11.4: what reading a code answers.
abbrev pub StartRead : ℕ → Result Start Refusal → Type 0
StartRead code answer = answer ≡ cond (ltb 1 code) (Err StartCode) (Ok (start_of code))

-- Rule 1.2: the code of a start, `start_of` backwards.
abbrev pub start_code : Start → ℕ
start_code Unknown = 0
start_code Empty = 1

-- Rule 1.2: what the fields say; edition and spare bits have one allowed value, and say nothing.
abbrev pub header_of : HeaderFields → Header
header_of fields =
    record {
      geometry = geometry_of fields;
      start = start_of fields.start;
      nodes = fields.nodes;
      entry = fields.entry;
    }

-- Rules 11.2 to 11.8, in their order. `long` says whether the length is N's.
abbrev pub header_cases : HeaderFields → Bool → List (Case Refusal)
header_cases fields long =
    (not (eqb fields.edition 1) ⇒ Edition)
    ∷ (not (shape_allowed (geometry_of fields)) ⇒ CacheShape)
    ∷ (ltb 1 fields.start ⇒ StartCode)
    ∷ (not (between 1 most_nodes fields.nodes) ⇒ NodeCount)
    ∷ (leb fields.nodes fields.entry ⇒ EntryNode)
    ∷ (not (eqb fields.first_spare 0 && eqb fields.second_spare 0) ⇒ SpareBits)
    ∷ (not long ⇒ Length)
    ∷ []

-- Rules 1.1 and 1.2: the fields that bytes begin with.
abbrev pub fields_in : List ℕ → HeaderFields
fields_in bytes = header_fields (word_at bytes 0)

-- Rule 1.2: the header that they make.
abbrev pub header_in : List ℕ → Header
header_in bytes = header_of (fields_in bytes)

-- Rules 11.1 to 11.8, of any bytes; the length is that of rule 1.3.
abbrev pub bytes_cases : List ℕ → List (Case Refusal)
bytes_cases bytes =
    (ltb (length bytes) 8 ⇒ TooShort)
    ∷ header_cases (fields_in bytes) (eqb (length bytes) (chart_length (fields_in bytes).nodes))

-- Rule 12.1, of the header alone: the first of refusals 1 to 8 that applies, or the header.
unfoldable pub header_read : List ℕ → Result Header Refusal
header_read bytes = first_case Err (bytes_cases bytes) (Ok (header_in bytes))

-- Rule 12.9: a header in numbers.
abbrev pub header_numbers : Header → List ℕ
header_numbers header =
    header.geometry.line
    ∷ header.geometry.sets
    ∷ header.geometry.ways
    ∷ start_code header.start
    ∷ header.nodes
    ∷ header.entry
    ∷ []

-- An answer in numbers: number and place, both 0 for no refusal, then the header's; none after a refusal.
pub record HeaderSaid : Type 0 where
  pub number : ℕ
  pub place : ℕ
  pub header : List ℕ

-- Rule 12.8, of the header alone.
abbrev pub header_says : Result Header Refusal → HeaderSaid
header_says (Ok header) = record { number = 0; place = 0; header = header_numbers header }
header_says (Err refusal) = record { number = number_of refusal; place = place_of refusal; header = [] }

abbrev pub read_header_says : List ℕ → HeaderSaid
read_header_says bytes = header_says (header_read bytes)
