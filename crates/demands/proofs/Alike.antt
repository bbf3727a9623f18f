-- The writer refuses and accepts what is given as the reader does the bytes of it.
use Rattle.std.specs.Prelude.{Err, Ok}
use Prim.Native.Nat.{ℕ, ◌+◌, ◌*◌, ◌≤◌}
use mathlib.Core.List.{List}
use mathlib.Core.Logic.{◌⊎◌, inl, inr, ⊎_elim}
use mathlib.Core.Path.{◌≡◌, sym, ◌∙◌}
use native.Mathlib.Omega.{arith}
use borrow.Author.Tests.{le-ltb, not-false}
use lib.ListN.{length}
use Rattle.lists.specs.Choice.{Case, first_case, FirstApplies}
use Rattle.lists.specs.Lists.{written}
use Rattle.lists.proofs.Choice.{none-applies, applies-first, first-applies, first-front, none_both, first_either}
use Rattle.refusals.specs.declared.Refusal.{Refusal}
use Rattle.refusals.specs.declared.Refusal.TheVariants.{ShortBuffer}
use Rattle.chart.specs.Layout.{chart_length}
use Rattle.chart.specs.Chart.{Chart, accepted, refused, field_cases, read_chart}
use Rattle.chart.proofs.Bytes.{header-bytes, record-bytes}
use Rattle.writer.specs.declared.heading.Heading.{Heading}
use Rattle.writer.specs.Packing.{chart_bytes}
use Rattle.writer.specs.Given.{NodeLists, header_given, listed, all_long, AllLong}
use Rattle.writer.specs.Writer.{room_cases, refuse_writing, wrote}
use Rattle.writer.proofs.Refused.{long-lists}
use Rattle.writer.proofs.Made.{made-length, made_bytes, made-header, made-record, made-read}
use Rattle.demands.specs.RoundTrip.{chart_given, AllFit, Makes}
use Rattle.demands.proofs.Writing.{refused-first, first-refused, none_written}

module _ (heading : Heading) (lists : NodeLists) (lent : List ℕ) (count : ℕ) (long : AllLong count lists) (fit : AllFit heading lists count) where
  abbrev given : List (Case Refusal)
  given = field_cases (header_given heading) (all_long heading.nodes lists) (listed lists)

  abbrev made : List ℕ
  made = chart_bytes (header_given heading) (listed lists) count

  by-rules : read_chart made ≡ first_case refused given (accepted (chart_given heading lists))
  by-rules = made-read heading lists count long fit.header fit.records

  pub refuses_alike : (refusal : Refusal) → read_chart made ≡ refused refusal → wrote heading lists lent ≡ refuse_writing lent refusal
  refuses_alike refusal e =
      first-refused heading lists lent refusal
      (first-front given (room_cases heading.nodes lent) refusal
      (applies-first refused given (accepted (chart_given heading lists)) refusal (λ a b q. cc) (λ q. let z : ◌≡◌ {A = ℕ} 0 1 = cc in omega arith) (sym by-rules ∙ e)))

  pub refused_alike : (refusal : Refusal) → (wrote heading lists lent).answer ≡ Err refusal → (refusal ≡ ShortBuffer) ⊎ (read_chart made ≡ refused refusal)
  refused_alike refusal e =
      ⊎_elim
      (λ (f : FirstApplies given refusal). inr (by-rules ∙ first-applies refused given (accepted (chart_given heading lists)) refusal f))
      (λ (f : FirstApplies (room_cases heading.nodes lent) refusal). inl (room f))
      (first_either given (room_cases heading.nodes lent) refusal (refused-first heading lists lent refusal e))
    where
      room : FirstApplies (room_cases heading.nodes lent) refusal → refusal ≡ ShortBuffer
      room (inl f) = sym f.1
      room (inr f) = absurd f.1

  pub accepts_alike : (chart : Chart) → read_chart made ≡ accepted chart → 8 + 8 * count ≤ length lent → wrote heading lists lent ≡ record { answer = Ok (8 + 8 * count); chart = written made lent }
  accepts_alike chart e room =
      let none = none-applies refused given (accepted (chart_given heading lists)) (accepted chart) (λ x q. let z : ◌≡◌ {A = ℕ} 0 1 = cc in omega arith) (sym by-rules ∙ e) in
      let same : heading.nodes ≡ count = sym (long-lists heading.nodes lists (not-false _ none.1.1.1.1.1.1.0)).kinds ∙ long.kinds in
      none_written heading lists lent
      (none_both given (room_cases heading.nodes lent) none (le-ltb (length lent) (chart_length heading.nodes) (omega (arith, same)), tt))
      ∙ λ i. record { answer = Ok (chart_length (same i)); chart = written (chart_bytes (header_given heading) (listed lists) (same i)) lent }

  pub makes : Makes heading lists count made
  makes =
      let small = made_bytes (header_given heading) (listed lists) count in
      record {
        are_bytes = small;
        long = made-length (header_given heading) (listed lists) count;
        header_said = sym (header-bytes made small) ∙ made-header (header_given heading) (listed lists) count fit.header;
        records_said = λ n h. sym (record-bytes made small n) ∙ made-record (header_given heading) (listed lists) count n h (fit.records n h);
      }
