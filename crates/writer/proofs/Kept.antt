-- What is known where all that is given was packed and no record broke its rules: the bytes are the chart's, and read back as what was given.
use Prim.Native.Nat.{ℕ, ◌≤◌, ◌<◌}
use mathlib.Core.Bool.{true, false}
use mathlib.Core.List.{List}
use mathlib.Core.Logic.{⊎_elim}
use mathlib.Core.Path.{◌≡◌, sym, ap, subst, ◌∙◌}
use native.Mathlib.Omega.{arith}
use lib.Dec.{ltb}
use lib.ListN.{length, get_or, replicate, get_or-replicate, length-replicate, get_or-eq_default}
use Rattle.std.specs.Prelude.{Result}
use Rattle.refusals.specs.declared.Refusal.{Refusal}
use Rattle.lists.specs.Choice.{NoneApplies}
use Rattle.lists.specs.Loops.{patch}
use Rattle.lists.proofs.Orders.{below_or}
use Rattle.lists.proofs.Loops.{length-patch, patch-ahead, patch-in0}
use Rattle.chart.specs.declared.headers.Header.{Header}
use Rattle.chart.specs.declared.records.RecordFields.{RecordFields}
use Rattle.chart.specs.Geometry.{most_nodes, longest_chart}
use Rattle.chart.specs.Layout.{chart_length, field, header_widths}
use Rattle.chart.specs.Header.{header_cases, header_of}
use Rattle.chart.specs.Record.{record_fields, record_keeps, record_of, Ends}
use Rattle.chart.specs.Chart.{records_in, first_broken}
use Rattle.chart.specs.Inner.{AllEnd, Gathers}
use Rattle.chart.proofs.Allowed.{keeps-ends}
use Rattle.writer.specs.declared.heading.Heading.{Heading}
use Rattle.writer.specs.Packing.{packed, header_values, chart_word, byte_widths, byte_of}
use Rattle.writer.specs.Given.{NodeLists, header_given, listed, AllLong}
use Rattle.writer.specs.Contract.{Packs}
use Rattle.writer.proofs.Fits.{few_nodes, record-fits}
use Rattle.writer.proofs.Refused.{all-kept}
use Rattle.writer.proofs.Stored.{chart-packed}
use Rattle.writer.proofs.Whole.{records-back}

-- Nodes past the end of the lists have no bit set.
pub listed-past : (count : ℕ) (lists : NodeLists) → AllLong count lists → (n : ℕ) → count ≤ n → listed lists n ≡ record_fields 0
listed-past count lists long n h =
    λ i. record {
      kind = get_or-eq_default lists.kinds 0 {n = n} (omega (arith, long.kinds)) i;
      address = get_or-eq_default lists.addresses 0 {n = n} (omega (arith, long.addresses)) i;
      outs = get_or-eq_default lists.outs 0 {n = n} (omega (arith, long.outs)) i;
      first = get_or-eq_default lists.firsts 0 {n = n} (omega (arith, long.firsts)) i;
      second = get_or-eq_default lists.seconds 0 {n = n} (omega (arith, long.seconds)) i;
      size = get_or-eq_default lists.sizes 0 {n = n} (omega (arith, long.sizes)) i;
    }

zero-at : (n i : ℕ) → ◌≡◌ {A = ℕ} (get_or (replicate n 0) i 0) 0
zero-at n i =
    ⊎_elim (λ (h : i < n). get_or-replicate n i 0 0 h) (λ (h : n ≤ i). get_or-eq_default (replicate n 0) 0 {n = i} (omega (arith, length-replicate {A = ℕ} n 0))) (below_or i n)

module _ (heading : Heading) (header : Header) (lists : NodeLists) (is : header ≡ header_of (header_given heading)) (none : NoneApplies (header_cases (header_given heading) true)) (long : AllLong header.nodes lists)
    (word : ℕ) (cur after : List ℕ) (packs : word ≡ packed header_widths (header_values (header_given heading))) (headed : cur ≡ patch (replicate longest_chart 0) 0 8 (λ k. field byte_widths k word))
    (answer : Result (Unit {0}) Refusal) (recorded : Packs (listed lists) header.nodes cur answer after) (whole : ltb (first_broken (listed lists) header.nodes) header.nodes ≡ false)
  where
    few : header.nodes ≤ most_nodes
    few = omega (arith, few_nodes heading none, ap (λ (h : Header). h.nodes) is)

    after_is : after ≡ patch (replicate longest_chart 0) 0 (chart_length header.nodes) (byte_of (chart_word (header_given heading) (listed lists)))
    after_is = chart-packed (listed lists) (header_given heading) (replicate longest_chart 0) cur after header.nodes word packs headed (recorded.laid whole)

    pub packed-are : (k : ℕ) → k < chart_length header.nodes → get_or after k 0 ≡ byte_of (chart_word (header_given heading) (listed lists)) k
    packed-are k h =
        ap (λ (l : List ℕ). get_or l k 0) after_is
        ∙ patch-in0 (replicate longest_chart 0) (chart_length header.nodes) (byte_of (chart_word (header_given heading) (listed lists))) k (omega (arith, few, length-replicate {A = ℕ} longest_chart 0)) h

    nothing-past : (k : ℕ) → chart_length header.nodes ≤ k → get_or after k 0 ≡ 0
    nothing-past k h =
        ap (λ (l : List ℕ). get_or l k 0) after_is
        ∙ patch-ahead (replicate longest_chart 0) 0 (chart_length header.nodes) (byte_of (chart_word (header_given heading) (listed lists))) k (omega arith)
        ∙ zero-at longest_chart k

    pub packed-long : chart_length header.nodes ≤ length after
    packed-long =
        let e : length after ≡ longest_chart = ap length after_is ∙ length-patch (replicate longest_chart 0) 0 (chart_length header.nodes) (byte_of (chart_word (header_given heading) (listed lists))) ∙ length-replicate {A = ℕ} longest_chart 0 in
        omega (arith, few)

    kept : (n : ℕ) → n < header.nodes → record_keeps header.nodes (listed lists n) ≡ true
    kept = all-kept header.nodes (listed lists) whole

    records-are : (n : ℕ) → records_in after n ≡ listed lists n
    records-are =
        records-back after (header_given heading) (listed lists) header.nodes packed-are nothing-past
        (λ n h. record-fits header.nodes (listed lists n) (kept n h) few) (listed-past header.nodes lists long)

    pub packed_ends : AllEnd (records_in after) header.nodes
    packed_ends n h = subst (λ (f : RecordFields). Ends (record_of f)) (sym (records-are n)) (keeps-ends header.nodes (listed lists n) (kept n h))

    pub packed-gathers : (gathers : Result ℕ Refusal) (array : List ℕ) → Gathers (records_in after) header.geometry header.nodes gathers array → Gathers (listed lists) header.geometry header.nodes gathers array
    packed-gathers gathers array h = subst (λ (records : ℕ → RecordFields). Gathers records header.geometry header.nodes gathers array) (λ i n. records-are n i) h
