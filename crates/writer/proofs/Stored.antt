-- Laws of storing: the words of a chart, stored one after another, are its bytes.
use Rattle.std.specs.Prelude.{Ok}
use Prim.Native.Nat.{ℕ, suc, ◌+◌, ◌*◌, ◌/◌, ◌%◌, ◌<◌}
use mathlib.Core.List.{List}
use mathlib.Core.Bool.{Bool, true, false, cond}
use mathlib.Core.Path.{◌≡◌, refl, sym, ap, ◌∙◌}
use native.Mathlib.Nat.{zero-add}
use native.Mathlib.Omega.{arith}
use lib.Dec.{ltb}
use lib.ListN.{length, get_or}
use Rattle.lists.specs.Lists.{written}
use Rattle.lists.specs.Loops.{patch}
use Rattle.lists.proofs.Loops.{patch-patch, patch-same, patch-written}
use borrow.Author.Tests.{ltb-false}
use Rattle.lists.specs.Choice.{first_case}
use Rattle.refusals.specs.declared.Refusal.TheVariants.{ShortBuffer}
use Rattle.chart.specs.declared.headers.HeaderFields.{HeaderFields}
use Rattle.chart.specs.declared.records.RecordFields.{RecordFields}
use Rattle.chart.specs.Layout.{chart_length, field, header_widths}
use Rattle.writer.specs.declared.heading.Heading.{Heading}
use Rattle.writer.specs.Given.{NodeLists, header_given, listed}
use Rattle.writer.specs.Writer.{room_cases, refuse_writing, stored}
use Rattle.writer.specs.Packing.{packed, header_values, records_word, chart_word, byte_widths, byte_of, chart_bytes}

-- Byte k of word n.
pub byte_at : (words : ℕ → ℕ) (n k : ℕ) → k < 8 → byte_of words (8 * n + k) ≡ field byte_widths k (words n)
byte_at words n k h =
    let rest : (8 * n + k) % 8 ≡ k = omega arith in
    let whole : (8 * n + k) / 8 ≡ n = omega arith in
    rw (rest, whole)

module _ (records : ℕ → RecordFields) where
  -- The records up to node n are stored behind the header, and then node n's.
  pub record-turn : (l cur : List ℕ) (n word : ℕ) → cur ≡ patch l 8 (8 * n) (byte_of (records_word records)) → word ≡ records_word records n
      → patch cur (8 * (n + 1)) 8 (λ k. field byte_widths k word) ≡ patch l 8 (8 * (n + 1)) (byte_of (records_word records))
  record-turn l cur n word e d =
      let place : 8 * (n + 1) ≡ 8 + 8 * n = omega arith in
      let count : 8 * (n + 1) ≡ 8 * n + 8 = omega arith in
      ap (λ (p : ℕ). patch cur p 8 (λ k. field byte_widths k word)) place
      ∙ patch-patch l 8 (8 * n) (byte_of (records_word records)) cur 8 (λ k. field byte_widths k word) e
      (λ j h. ap (field byte_widths j) d ∙ sym (byte_at (records_word records) n j h))
      ∙ ap (λ (m : ℕ). patch l 8 m (byte_of (records_word records))) (sym count)

  module _ (fields : HeaderFields) where
    behind : (j : ℕ) → byte_of (records_word records) j ≡ byte_of (chart_word fields records) (8 + j)
    behind j =
        let rest : (8 + j) % 8 ≡ j % 8 = omega arith in
        let whole : (8 + j) / 8 ≡ suc (j / 8) = omega arith in
        rw (rest, whole)

    -- The header, and all records behind it.
    pub chart-packed : (l cur after : List ℕ) (nodes word : ℕ) → word ≡ packed header_widths (header_values fields)
        → cur ≡ patch l 0 8 (λ k. field byte_widths k word) → after ≡ patch cur 8 (8 * nodes) (byte_of (records_word records)) → after ≡ patch l 0 (chart_length nodes) (byte_of (chart_word fields records))
    chart-packed l cur after nodes word packs e d =
        let header : cur ≡ patch l 0 8 (byte_of (chart_word fields records)) =
        e ∙ patch-same l 0 8 (λ k. field byte_widths k word) (byte_of (chart_word fields records)) (λ j h. ap (field byte_widths j) packs ∙ sym (rw zero-add at (byte_at (chart_word fields records) 0 j h))) in
        d ∙ patch-patch l 0 8 (byte_of (chart_word fields records)) cur (8 * nodes) (byte_of (records_word records)) header (λ j h. behind j)

-- ---- the answer

-- Where there is room, bytes that are a chart's are stored as the chart.
pub answer-stored : (heading : Heading) (lists : NodeLists) (l bytes : List ℕ) (nodes : ℕ) → nodes ≡ heading.nodes
    → ((k : ℕ) → k < chart_length nodes → get_or bytes k 0 ≡ byte_of (chart_word (header_given heading) (listed lists)) k)
    → first_case (refuse_writing l) (room_cases nodes l) (record { answer = Ok (chart_length nodes); chart = patch l 0 (chart_length nodes) (λ k. get_or bytes k 0) })
    ≡ first_case (refuse_writing l) (room_cases nodes l) (stored heading lists l)
answer-stored heading lists l bytes nodes same are = go (ltb (length l) (chart_length nodes)) refl
  where
    go : (t : Bool) → ltb (length l) (chart_length nodes) ≡ t
        → cond t (refuse_writing l ShortBuffer) (record { answer = Ok (chart_length nodes); chart = patch l 0 (chart_length nodes) (λ k. get_or bytes k 0) }) ≡ cond t (refuse_writing l ShortBuffer) (stored heading lists l)
    go true e = refl
    go false e =
        let list : patch l 0 (chart_length nodes) (λ k. get_or bytes k 0) ≡ written (chart_bytes (header_given heading) (listed lists) nodes) l =
        patch-same l 0 (chart_length nodes) (λ k. get_or bytes k 0) (byte_of (chart_word (header_given heading) (listed lists))) are
        ∙ patch-written l (chart_length nodes) (byte_of (chart_word (header_given heading) (listed lists))) (ltb-false (length l) (chart_length nodes) e) in
        (λ i. record { answer = Ok (chart_length nodes); chart = list i })
        ∙ λ i. record { answer = Ok (chart_length (same i)); chart = written (chart_bytes (header_given heading) (listed lists) (same i)) l }
