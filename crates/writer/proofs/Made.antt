-- The bytes of a chart that was made of fields which fit: they are bytes, and read back as these fields, so that the reader says of them what its
-- rules say of the fields.
use Prim.Native.Nat.{ℕ, suc, ◌/◌, ◌%◌, ◌^◌, ◌≤◌, ◌<◌}
use mathlib.Core.List.{List}
use mathlib.Core.Logic.{⊎_elim}
use mathlib.Core.Path.{◌≡◌, sym, subst, ◌∙◌}
use native.Mathlib.Nat.{mod-lt}
use native.Mathlib.Omega.{arith}
use borrow.Author.Tests.{le-ltb, eqb-true, eq-eqb}
use lib.Dec.{eqb}
use lib.ListN.{length, get_or, drop, get_or-replicate, get_or-eq_default}
use lib.Pow.{pow_pos}
use Rattle.lists.specs.Choice.{first_case}
use Rattle.lists.proofs.Choice.{same_tests}
use Rattle.lists.proofs.Listed.{length-list_of, get_or-list_of}
use Rattle.lists.proofs.Orders.{below_or}
use Rattle.chart.specs.declared.headers.HeaderFields.{HeaderFields}
use Rattle.chart.specs.declared.records.RecordFields.{RecordFields}
use Rattle.chart.specs.Layout.{chart_length, widths_total, header_widths, record_widths}
use Rattle.chart.specs.Header.{fields_in, header_of}
use Rattle.chart.specs.Record.{record_fields}
use Rattle.chart.specs.Chart.{accepted, refused, chart_of, field_cases, records_in, read_chart}
use Rattle.chart.specs.Bytes.{AreBytes}
use Rattle.writer.specs.declared.heading.Heading.{Heading}
use Rattle.writer.specs.Packing.{Fit, header_values, record_values, chart_word, byte_widths, byte_of, chart_bytes}
use Rattle.writer.specs.Given.{NodeLists, header_given, listed, all_long, AllLong}
use Rattle.writer.proofs.Refused.{long-lists, lists-long}
use Rattle.writer.proofs.Whole.{header-back, record-back, records-back}
use Rattle.writer.proofs.Kept.{listed-past}

module _ (fields : HeaderFields) (records : ℕ → RecordFields) (count : ℕ) where
  abbrev made : List ℕ
  made = chart_bytes fields records count

  pub made-length : length made ≡ chart_length count
  made-length = length-list_of (chart_length count) (byte_of (chart_word fields records))

  made_at : (i : ℕ) → i < chart_length count → get_or made i 0 ≡ byte_of (chart_word fields records) i
  made_at i h = get_or-list_of (chart_length count) (byte_of (chart_word fields records)) 0 i h

  made-past : (i : ℕ) → chart_length count ≤ i → get_or made i 0 ≡ 0
  made-past i h = get_or-eq_default made 0 {n = i} (omega (arith, made-length))

  byte-below : (words : ℕ → ℕ) (i : ℕ) → byte_of words i < 256
  byte-below words i =
      let wide : get_or byte_widths (i % 8) 0 ≡ 8 = get_or-replicate 8 (i % 8) 8 0 (omega arith) in
      rw wide (mod-lt (words (i / 8) / 2 ^ widths_total (drop (suc (i % 8)) byte_widths)) (pow_pos 8))

  pub made_bytes : AreBytes made
  made_bytes i =
      ⊎_elim
      (λ (h : i < chart_length count). subst (λ (b : ℕ). b < 256) (sym (made_at i h)) (byte-below (chart_word fields records) i))
      (λ (h : chart_length count ≤ i). subst (λ (b : ℕ). b < 256) (sym (made-past i h)) (omega arith))
      (below_or i (chart_length count))

  pub made-header : Fit header_widths (header_values fields) → fields_in made ≡ fields
  made-header fit = header-back made fields records count made_at fit

  pub made-record : (n : ℕ) → n < count → Fit record_widths (record_values (records n)) → records_in made n ≡ records n
  made-record n h fit = record-back made fields records count made_at n h fit

  made-records : ((n : ℕ) → n < count → Fit record_widths (record_values (records n))) → ((n : ℕ) → count ≤ n → records n ≡ record_fields 0) → (n : ℕ) → records_in made n ≡ records n
  made-records fit none n = records-back made fields records count made_at made-past fit none n

module _ (heading : Heading) (lists : NodeLists) (count : ℕ) (long : AllLong count lists) (header-fits : Fit header_widths (header_values (header_given heading)))
    (records-fit : (n : ℕ) → n < count → Fit record_widths (record_values (listed lists n)))
  where
    abbrev bytes : List ℕ
    bytes = chart_bytes (header_given heading) (listed lists) count

    header-same : fields_in bytes ≡ header_given heading
    header-same = made-header (header_given heading) (listed lists) count header-fits

    records-same : (n : ℕ) → records_in bytes n ≡ listed lists n
    records-same = made-records (header_given heading) (listed lists) count records-fit (listed-past count lists long)

    -- The length is N's exactly where the lists' are.
    long_same : eqb (length bytes) (chart_length heading.nodes) ≡ all_long heading.nodes lists
    long_same =
        same_tests _ _
        (λ e.
        let same : count ≡ heading.nodes = omega (arith, eqb-true (length bytes) (chart_length heading.nodes) e, made-length (header_given heading) (listed lists) count) in
        lists-long heading.nodes lists (subst (λ (n : ℕ). AllLong n lists) same long))
        (λ e. eq-eqb (length bytes) (chart_length heading.nodes) (omega (arith, (long-lists heading.nodes lists e).kinds, long.kinds, made-length (header_given heading) (listed lists) count)))

    pub made-read : read_chart bytes
        ≡ first_case refused (field_cases (header_given heading) (all_long heading.nodes lists) (listed lists)) (accepted (chart_of (listed lists) (header_of (header_given heading))))
    unfolding read_chart
    made-read =
        rw (le-ltb (length bytes) 8 (omega (arith, made-length (header_given heading) (listed lists) count)))
        ((λ i. first_case refused (field_cases (header-same i) (eqb (length bytes) (chart_length (header-same i).nodes)) (λ n. records-same n i)) (accepted (chart_of (λ n. records-same n i) (header_of (header-same i)))))
        ∙ λ i. first_case refused (field_cases (header_given heading) (long_same i) (listed lists)) (accepted (chart_of (listed lists) (header_of (header_given heading)))))
