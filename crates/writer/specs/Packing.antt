-- How values become a word, and words become bytes. Rules 1.1 to 1.3 and 2.1 the other way round, for any widths.
-- Choices: the eight bytes of a word are fields of it, each eight bits wide; what is too wide for its field would carry over into the field
-- before, and a value that is missing counts as 0. No answer depends on either: what is too wide is refused (rule 15.4), and there is a value for
-- each field.
use Rattle.std.specs.Prelude.{ℕ, zero, suc, ◌+◌, ◌*◌, ◌/◌, ◌%◌, ◌^◌, ◌<◌, List, [], ◌∷◌, replicate}
use Rattle.lists.specs.Lists.{list_of}
use Rattle.chart.specs.declared.headers.HeaderFields.{HeaderFields}
use Rattle.chart.specs.declared.records.RecordFields.{RecordFields}
use Rattle.chart.specs.Layout.{chart_length, widths_total, field, header_widths, record_widths}

-- Rule 1.1: the word that has these values in fields of these widths, the first before the others.
abbrev pub packed : List ℕ → List ℕ → ℕ
packed [] values = 0
packed (width ∷ widths) [] = 0
packed (width ∷ widths) (value ∷ values) = value * 2 ^ widths_total widths + packed widths values

-- There is a value for each field, and it is not too wide.
abbrev pub Fit : List ℕ → List ℕ → Type 0
Fit [] [] = Unit {0}
Fit [] (value ∷ values) = ⊥
Fit (width ∷ widths) [] = ⊥
Fit (width ∷ widths) (value ∷ values) = (value < 2 ^ width) × Fit widths values

-- Rule 1.2: the header's fields in order; rule 2.1: a record's.
abbrev pub header_values : HeaderFields → List ℕ
header_values fields =
    fields.edition
    ∷ fields.line
    ∷ fields.sets
    ∷ fields.ways
    ∷ fields.start
    ∷ fields.first_spare
    ∷ fields.nodes
    ∷ fields.entry
    ∷ fields.second_spare
    ∷ []

abbrev pub record_values : RecordFields → List ℕ
record_values fields = fields.kind ∷ fields.address ∷ fields.outs ∷ fields.first ∷ fields.second ∷ fields.size ∷ []

-- Rule 1.1: the words of records; and those of a chart, the header's before them.
abbrev pub records_word : (ℕ → RecordFields) → ℕ → ℕ
records_word records n = packed record_widths (record_values (records n))

abbrev pub chart_word : HeaderFields → (ℕ → RecordFields) → ℕ → ℕ
chart_word fields records zero = packed header_widths (header_values fields)
chart_word fields records (suc n) = records_word records n

-- Rule 1.1: how wide the bytes of a word are.
abbrev pub byte_widths : List ℕ
byte_widths = replicate 8 8

-- Rule 1.1: byte i of words of eight bytes, one after another.
abbrev pub byte_of : (ℕ → ℕ) → ℕ → ℕ
byte_of words i = field byte_widths (i % 8) (words (i / 8))

-- Rules 1.1 and 1.3: the bytes of a chart with so many records.
abbrev pub chart_bytes : HeaderFields → (ℕ → RecordFields) → ℕ → List ℕ
chart_bytes fields records count = list_of (chart_length count) (byte_of (chart_word fields records))
