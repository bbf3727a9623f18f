-- What is packed reads back: bytes and words, words and fields, each way round.
use Prim.Native.Nat.{ℕ, ◌+◌, ◌*◌, ◌^◌, ◌<◌}
use mathlib.Core.List.{List, [], ◌∷◌}
use mathlib.Core.Path.{◌≡◌, ap, ◌∙◌}
use native.Mathlib.Omega.{arith}
use lib.ListN.{get_or}
use Rattle.lists.specs.Lists.{list_of}
use Rattle.lists.proofs.Listed.{get_or-list_of}
use Rattle.chart.specs.declared.headers.HeaderFields.{HeaderFields}
use Rattle.chart.specs.declared.records.RecordFields.{RecordFields}
use Rattle.chart.specs.Layout.{word_at, field, header_widths, record_widths}
use Rattle.chart.specs.Header.{header_fields}
use Rattle.chart.specs.Record.{record_fields}
use Rattle.chart.specs.Bytes.{AreBytes}
use Rattle.writer.specs.Packing.{packed, Fit, header_values, record_values, byte_widths}
use Rattle.writer.proofs.Packed.{field-packed, packed-fields}

-- ---- bytes and words

-- The eight bytes of word n.
abbrev pub eight : List ℕ → ℕ → List ℕ
eight bytes n = list_of 8 (λ k. get_or bytes (8 * n + k) 0)

pub word-packed : (bytes : List ℕ) (n : ℕ) → word_at bytes n ≡ packed byte_widths (eight bytes n)
unfolding word_at
word-packed bytes n = omega arith

-- Eight bytes that are those of a word make it.
pub word-of-bytes : (bytes : List ℕ) (n word : ℕ) → ((k : ℕ) → k < 8 → get_or bytes (8 * n + k) 0 ≡ field byte_widths k word) → word < 2 ^ 64 → word_at bytes n ≡ word
word-of-bytes bytes n word are h =
    word-packed bytes n
    ∙ (λ i. packed byte_widths (are 0 (omega arith) i ∷ are 1 (omega arith) i ∷ are 2 (omega arith) i ∷ are 3 (omega arith) i ∷ are 4 (omega arith) i ∷ are 5 (omega arith) i ∷ are 6 (omega arith) i ∷ are 7 (omega arith) i ∷ []))
    ∙ packed-fields byte_widths word h

pub eight-fit : (bytes : List ℕ) → AreBytes bytes → (n : ℕ) → Fit byte_widths (eight bytes n)
eight-fit bytes small n = (small _, (small _, (small _, (small _, (small _, (small _, (small _, (small _, tt))))))))

-- A word's bytes are those that it is made of.
pub byte-of-word : (bytes : List ℕ) → AreBytes bytes → (n k : ℕ) → k < 8 → field byte_widths k (word_at bytes n) ≡ get_or bytes (8 * n + k) 0
byte-of-word bytes small n k h =
    ap (field byte_widths k) (word-packed bytes n)
    ∙ field-packed byte_widths (eight bytes n)
    (eight-fit bytes small n) k h
    ∙ get_or-list_of 8 (λ k. get_or bytes (8 * n + k) 0) 0 k h

-- ---- words and fields

pub header_read : (fields : HeaderFields) → Fit header_widths (header_values fields) → header_fields (packed header_widths (header_values fields)) ≡ fields
header_read fields fit =
    let at : (k : ℕ) → k < 9 → field header_widths k (packed header_widths (header_values fields)) ≡ get_or (header_values fields) k 0 = λ k h. field-packed header_widths (header_values fields) fit k h in
    λ i. record {
      edition = at 0 (omega arith) i;
      line = at 1 (omega arith) i;
      sets = at 2 (omega arith) i;
      ways = at 3 (omega arith) i;
      start = at 4 (omega arith) i;
      first_spare = at 5 (omega arith) i;
      nodes = at 6 (omega arith) i;
      entry = at 7 (omega arith) i;
      second_spare = at 8 (omega arith) i;
    }

pub record-read : (fields : RecordFields) → Fit record_widths (record_values fields) → record_fields (packed record_widths (record_values fields)) ≡ fields
record-read fields fit =
    let read : RecordFields = record_fields (packed record_widths (record_values fields)) in
    let kind : read.kind ≡ fields.kind = field-packed record_widths (record_values fields) fit 0 (omega arith) in
    let address : read.address ≡ fields.address = field-packed record_widths (record_values fields) fit 1 (omega arith) in
    let outs : read.outs ≡ fields.outs = field-packed record_widths (record_values fields) fit 2 (omega arith) in
    let first : read.first ≡ fields.first = field-packed record_widths (record_values fields) fit 3 (omega arith) in
    let second : read.second ≡ fields.second = field-packed record_widths (record_values fields) fit 4 (omega arith) in
    let size : read.size ≡ fields.size = field-packed record_widths (record_values fields) fit 5 (omega arith) in
    λ i. record { kind = kind i; address = address i; outs = outs i; first = first i; second = second i; size = size i }

pub read-header : (word : ℕ) → word < 2 ^ 64 → packed header_widths (header_values (header_fields word)) ≡ word
read-header word h = packed-fields header_widths word h

pub read-record : (word : ℕ) → word < 2 ^ 64 → packed record_widths (record_values (record_fields word)) ≡ word
read-record word h = packed-fields record_widths word h
