-- Bytes that are a chart's read back as its fields, node by node: the rest of the bytes counts as 0, and so do nodes that there are not.
use Prim.Native.Nat.{ℕ, suc, ◌+◌, ◌*◌, ◌^◌, ◌≤◌, ◌<◌}
use mathlib.Core.List.{List}
use mathlib.Core.Logic.{⊎_elim}
use mathlib.Core.Path.{◌≡◌, sym, ap, ◌∙◌}
use native.Mathlib.Nat.{zero-div, zero-mod}
use native.Mathlib.Numerals.{add-one}
use native.Mathlib.Omega.{arith}
use lib.ListN.{get_or}
use Rattle.lists.proofs.Orders.{below_or}
use Rattle.chart.specs.declared.headers.HeaderFields.{HeaderFields}
use Rattle.chart.specs.declared.records.RecordFields.{RecordFields}
use Rattle.chart.specs.Layout.{word_at, chart_length, field, header_widths, record_widths}
use Rattle.chart.specs.Header.{header_fields, fields_in}
use Rattle.chart.specs.Record.{record_fields}
use Rattle.chart.specs.Chart.{records_in}
use Rattle.writer.specs.Packing.{Fit, header_values, record_values, chart_word, byte_widths, byte_of}
use Rattle.writer.proofs.Packed.{packed-below}
use Rattle.writer.proofs.Stored.{byte_at}
use Rattle.writer.proofs.Readback.{word-of-bytes, header_read, record-read}

no_field : (widths : List ℕ) (k : ℕ) → field widths k 0 ≡ 0
no_field widths k = rw (zero-div, zero-mod)

module _ (bytes : List ℕ) (fields : HeaderFields) (records : ℕ → RecordFields) (count : ℕ)
    (are : (i : ℕ) → i < chart_length count → get_or bytes i 0 ≡ byte_of (chart_word fields records) i)
  where
    word-is : (n : ℕ) → n ≤ count → chart_word fields records n < 2 ^ 64 → word_at bytes n ≡ chart_word fields records n
    word-is n h below = word-of-bytes bytes n (chart_word fields records n) (λ k j. are (8 * n + k) (omega arith) ∙ byte_at (chart_word fields records) n k j) below

    pub header-back : Fit header_widths (header_values fields) → fields_in bytes ≡ fields
    header-back fit =
        ap header_fields (word-is 0 (omega arith) (packed-below header_widths (header_values fields) fit)) ∙ header_read fields fit

    pub record-back : (n : ℕ) → n < count → Fit record_widths (record_values (records n)) → records_in bytes n ≡ records n
    record-back n h fit =
        ap (λ (m : ℕ). record_fields (word_at bytes m)) (add-one n)
        ∙ ap record_fields (word-is (suc n) (omega arith) (packed-below record_widths (record_values (records n)) fit))
        ∙ record-read (records n) fit

    -- Past the end there is nothing.
    module _ (nothing : (i : ℕ) → chart_length count ≤ i → get_or bytes i 0 ≡ 0) where
      record-past : (n : ℕ) → count ≤ n → records_in bytes n ≡ record_fields 0
      record-past n h =
          ap record_fields
          (word-of-bytes bytes (n + 1) 0 (λ k j. nothing (8 * (n + 1) + k) (omega arith) ∙ sym (no_field byte_widths k)) (omega arith))

      pub records-back : ((n : ℕ) → n < count → Fit record_widths (record_values (records n))) → ((n : ℕ) → count ≤ n → records n ≡ record_fields 0) → (n : ℕ) → records_in bytes n ≡ records n
      records-back fit none n =
          ⊎_elim
          (λ (h : n < count). record-back n h (fit n h))
          (λ (h : count ≤ n). record-past n h ∙ sym (none n h))
          (below_or n count)
