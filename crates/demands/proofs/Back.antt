-- What was written reads back as what was given.
use Rattle.std.specs.Prelude.{Ok, Some}
use Prim.Native.Nat.{ℕ, ◌≤◌, ◌<◌}
use mathlib.Core.Bool.{Bool, true}
use mathlib.Core.List.{List, [], ◌∷◌}
use mathlib.Core.Path.{◌≡◌, sym, ap, subst, ◌∙◌}
use borrow.Author.Tests.{ltb-false, not-false}
use lib.ListN.{length, take, drop}
use lib.Seq.{take-append_seam}
use Rattle.lists.specs.Choice.{Case, NoneApplies}
use Rattle.lists.specs.Lists.{written}
use Rattle.lists.proofs.Choice.{first-otherwise, none_passes, none-front}
use Rattle.refusals.specs.declared.Refusal.{Refusal}
use Rattle.chart.specs.Layout.{chart_length}
use Rattle.chart.specs.Header.{header_of, header_cases, fields_in}
use Rattle.chart.specs.Record.{record_keeps}
use Rattle.chart.specs.Chart.{accepted, refused, field_cases, records_in, read_chart, broken_at, first_broken, record_cases}
use Rattle.chart.proofs.Bytes.{header-bytes, record-bytes}
use Rattle.writer.specs.declared.heading.Heading.{Heading}
use Rattle.writer.specs.Packing.{chart_bytes}
use Rattle.writer.specs.Given.{NodeLists, header_given, listed, all_long, AllLong}
use Rattle.writer.specs.Writer.{WriteLeft, room_cases, wrote}
use Rattle.writer.proofs.Refused.{long-lists}
use Rattle.writer.proofs.Fits.{header-fits, record-fits, few_nodes}
use Rattle.writer.proofs.Made.{made-length, made_bytes, made-header, made-record, made-read}
use Rattle.writer.proofs.Again.{start_back}
use Rattle.demands.specs.RoundTrip.{chart_given, AllFit, ReadsBack}
use Rattle.demands.proofs.Writing.{written_none, none_written, node-there, fields-refusals}

module _ (heading : Heading) (lists : NodeLists) (lent : List ℕ) (count : ℕ) (wrote_it : (wrote heading lists lent).answer ≡ Ok count) where
  abbrev given : List (Case Refusal)
  given = field_cases (header_given heading) (all_long heading.nodes lists) (listed lists)

  none : NoneApplies given
  none = none-front given (room_cases heading.nodes lent) (written_none heading lists lent count wrote_it)

  long : all_long heading.nodes lists ≡ true
  long = not-false _ none.1.1.1.1.1.1.0

  header-none : NoneApplies (header_cases (header_given heading) true)
  header-none =
      subst (λ (t : Bool). NoneApplies (header_cases (header_given heading) t)) long
      (none-front (header_cases (header_given heading) (all_long heading.nodes lists)) (record_cases (listed lists) (header_of (header_given heading))) none)

  kept : (n : ℕ) → n < heading.nodes → record_keeps heading.nodes (listed lists n) ≡ true
  unfolding first_broken
  kept n h = not-false _ (none_passes heading.nodes (broken_at (listed lists) heading.nodes) none.1.1.1.1.1.1.1.0 n h)

  pub all_fit : AllFit heading lists heading.nodes
  all_fit =
      record {
        header = header-fits heading header-none;
        records = λ n h. record-fits heading.nodes (listed lists n) (kept n h) (few_nodes heading header-none);
      }

  abbrev bytes : List ℕ
  bytes = chart_bytes (header_given heading) (listed lists) heading.nodes

  taken : take count (wrote heading lists lent).chart ≡ bytes
  taken =
      let same : Ok count ≡ Ok (chart_length heading.nodes) = sym wrote_it ∙ ap (λ (left : WriteLeft). left.answer) (none_written heading lists lent (written_none heading lists lent count wrote_it)) in
      let is : count ≡ chart_length heading.nodes = cc in
      ap (λ (left : WriteLeft). take count left.chart) (none_written heading lists lent (written_none heading lists lent count wrote_it))
      ∙ ap (λ (n : ℕ). take n (written bytes lent)) (is ∙ sym (made-length (header_given heading) (listed lists) heading.nodes))
      ∙ take-append_seam bytes (drop (length bytes) lent)

  read-given : read_chart bytes ≡ accepted (chart_given heading lists)
  read-given =
      made-read heading lists heading.nodes (long-lists heading.nodes lists long) all_fit.header all_fit.records
      ∙ first-otherwise refused given (accepted (chart_given heading lists)) none

  header_said : fields_in bytes ≡ header_given heading
  header_said = made-header (header_given heading) (listed lists) heading.nodes all_fit.header

  record-said : (n : ℕ) → n < heading.nodes → records_in bytes n ≡ listed lists n
  record-said n h = made-record (header_given heading) (listed lists) heading.nodes n h (all_fit.records n h)

  start-said : heading.start ≤ 1
  start-said = ltb-false 1 heading.start none.1.1.0

  back : ReadsBack heading lists bytes
  back =
      let small = made_bytes (header_given heading) (listed lists) heading.nodes in
      record {
        are_bytes = small;
        header_said = sym (header-bytes bytes small) ∙ header_said;
        records_said = λ n h. sym (record-bytes bytes small n) ∙ record-said n h;
        read = read-given;
        header = λ i. heading.line ∷ heading.sets ∷ heading.ways ∷ start_back heading.start start-said i ∷ heading.nodes ∷ heading.entry ∷ [];
        nodes = λ n h. node-there bytes (chart_given heading lists) n read-given h ∙ (λ i. Ok (Some (record-said n h i)));
        blocks = λ spare room. fields-refusals.listed_blocks bytes (chart_given heading lists) spare read-given room;
      }

  pub reads_back : ReadsBack heading lists (take count (wrote heading lists lent).chart)
  reads_back = subst (ReadsBack heading lists) (sym taken) back

  pub given-long : AllLong heading.nodes lists
  given-long = long-lists heading.nodes lists long
