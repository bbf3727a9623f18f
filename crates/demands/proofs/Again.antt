-- What was read and taken apart is written again as the same bytes.
use Rattle.std.specs.Prelude.{Ok, Some}
use Prim.Native.Nat.{ℕ, ◌≤◌, ◌<◌}
use mathlib.Core.Bool.{Bool, true}
use mathlib.Core.List.{List}
use mathlib.Core.Path.{◌≡◌, sym, ap, subst, ◌∙◌}
use native.Mathlib.Omega.{arith}
use borrow.Author.Tests.{ltb-false, le-ltb, eqb-true, not-false}
use lib.Dec.{eqb}
use lib.ListN.{length}
use Rattle.lists.specs.Choice.{Case, NoneApplies}
use Rattle.lists.specs.Lists.{written}
use Rattle.lists.proofs.Choice.{and-true, none-applies, none_passes, none-front, none_both}
use Rattle.lists.proofs.Listed.{length-list_of, get_or-list_of}
use Rattle.refusals.specs.declared.Refusal.{Refusal}
use Rattle.chart.specs.declared.headers.HeaderFields.{HeaderFields}
use Rattle.chart.specs.declared.records.RecordFields.{RecordFields}
use Rattle.chart.specs.Layout.{chart_length}
use Rattle.chart.specs.Header.{header_of, header_cases, fields_in}
use Rattle.chart.specs.Record.{record_keeps}
use Rattle.chart.specs.Chart.{Chart, accepted, refused, field_cases, records_in, chart_in, read_chart, chart_cases, broken_at, first_broken, record_cases}
use Rattle.chart.specs.Bytes.{AreBytes}
use Rattle.chart.proofs.Accepted.{accepted-chart, accepted-length, accepted-nodes}
use Rattle.fields.specs.Fields.{node_read}
use Rattle.writer.specs.Packing.{chart_bytes}
use Rattle.writer.specs.Given.{header_given, listed, all_long, AllLong}
use Rattle.writer.specs.Taken.{heading_of, fields_of, lists_of}
use Rattle.writer.specs.Writer.{room_cases, write_cases, wrote}
use Rattle.writer.proofs.Fits.{header-fits, record-fits}
use Rattle.writer.proofs.Made.{made-read}
use Rattle.writer.proofs.Again.{node-back, start_back, bytes-again}
use Rattle.demands.specs.RoundTrip.{chart_given, AllFit}
use Rattle.demands.proofs.Writing.{none_written, node-there}

-- ---- a chart taken apart

pub lists-are : (chart : Chart) → AllLong chart.header.nodes (lists_of chart)
lists-are chart =
    record {
      kinds = length-list_of _ _;
      addresses = length-list_of _ _;
      sizes = length-list_of _ _;
      outs = length-list_of _ _;
      firsts = length-list_of _ _;
      seconds = length-list_of _ _;
    }

pub listed-taken : (chart : Chart) (n : ℕ) → n < chart.header.nodes → listed (lists_of chart) n ≡ fields_of (chart.node n)
listed-taken chart n h =
    λ i. record {
      kind = get_or-list_of chart.header.nodes (λ n. (fields_of (chart.node n)).kind) 0 n h i;
      address = get_or-list_of chart.header.nodes (λ n. (fields_of (chart.node n)).address) 0 n h i;
      outs = get_or-list_of chart.header.nodes (λ n. (fields_of (chart.node n)).outs) 0 n h i;
      first = get_or-list_of chart.header.nodes (λ n. (fields_of (chart.node n)).first) 0 n h i;
      second = get_or-list_of chart.header.nodes (λ n. (fields_of (chart.node n)).second) 0 n h i;
      size = get_or-list_of chart.header.nodes (λ n. (fields_of (chart.node n)).size) 0 n h i;
    }

-- ---- the chart of some bytes

module _ (bytes : List ℕ) (chart : Chart) (read : read_chart bytes ≡ accepted chart) where
  is : chart ≡ chart_in bytes
  is = accepted-chart bytes chart read

  none-refuses : NoneApplies (chart_cases bytes)
  unfolding read_chart
  none-refuses = none-applies refused (chart_cases bytes) (accepted (chart_in bytes)) (accepted chart) (λ x q. let z : ◌≡◌ {A = ℕ} 0 1 = cc in omega arith) read

  nodes_are : chart.header.nodes ≡ (fields_in bytes).nodes
  nodes_are = ap (λ (c : Chart). c.header.nodes) is

  kept_in : (n : ℕ) → n < (fields_in bytes).nodes → record_keeps (fields_in bytes).nodes (records_in bytes n) ≡ true
  unfolding first_broken
  kept_in n h = not-false _ (none_passes (fields_in bytes).nodes (broken_at (records_in bytes) (fields_in bytes).nodes) none-refuses.1.1.1.1.1.1.1.1.0 n h)

  -- The fields of a node taken apart are those of its bytes.
  node-taken : (n : ℕ) → n < chart.header.nodes → fields_of (chart.node n) ≡ records_in bytes n
  node-taken n h =
      ap (λ (c : Chart). fields_of (c.node n)) is
      ∙ node-back (fields_in bytes).nodes (records_in bytes n) (kept_in n (omega (arith, nodes_are)))

  listed_in : (n : ℕ) → n < chart.header.nodes → listed (lists_of chart) n ≡ records_in bytes n
  listed_in n h = listed-taken chart n h ∙ node-taken n h

  pub nodes_again : (n : ℕ) → n < chart.header.nodes → node_read bytes n ≡ Ok (Some (listed (lists_of chart) n))
  nodes_again n h = node-there bytes chart n read h ∙ ap (λ (f : RecordFields). Ok (Some f)) (sym (listed_in n h))

  header-taken : header_given (heading_of chart.header) ≡ fields_in bytes
  header-taken =
      let edition : (fields_in bytes).edition ≡ 1 = eqb-true (fields_in bytes).edition 1 (not-false _ none-refuses.1.0) in
      let spare = and-true (eqb (fields_in bytes).first_spare 0) (eqb (fields_in bytes).second_spare 0) (not-false _ none-refuses.1.1.1.1.1.1.0) in
      let code = start_back (fields_in bytes).start (ltb-false 1 (fields_in bytes).start none-refuses.1.1.1.0) in
      ap (λ (c : Chart). header_given (heading_of c.header)) is
      ∙ λ i. record {
        edition = sym edition i;
        line = (fields_in bytes).line;
        sets = (fields_in bytes).sets;
        ways = (fields_in bytes).ways;
        start = code i;
        first_spare = sym (eqb-true (fields_in bytes).first_spare 0 spare.0) i;
        nodes = (fields_in bytes).nodes;
        entry = (fields_in bytes).entry;
        second_spare = sym (eqb-true (fields_in bytes).second_spare 0 spare.1) i;
      }

  long-in : length bytes ≡ chart_length chart.header.nodes
  long-in = accepted-length bytes chart read

  header-keeps : NoneApplies (header_cases (header_given (heading_of chart.header)) true)
  header-keeps =
      let long = eqb (length bytes) (chart_length (fields_in bytes).nodes) in
      let all = none-front (header_cases (fields_in bytes) long) (record_cases (records_in bytes) (header_of (fields_in bytes))) none-refuses.1 in
      subst (λ (f : HeaderFields). NoneApplies (header_cases f true)) (sym header-taken)
      (subst (λ (t : Bool). NoneApplies (header_cases (fields_in bytes) t)) (not-false long none-refuses.1.1.1.1.1.1.1.0) all)

  fit-again : AllFit (heading_of chart.header) (lists_of chart) chart.header.nodes
  fit-again =
      record {
        header = header-fits (heading_of chart.header) header-keeps;
        records = λ n h. record-fits chart.header.nodes (listed (lists_of chart) n) (kept_again n h) (accepted-nodes bytes chart read);
      }
    where
      kept_again : (n : ℕ) → n < chart.header.nodes → record_keeps chart.header.nodes (listed (lists_of chart) n) ≡ true
      kept_again n h =
          subst (λ (f : RecordFields). record_keeps chart.header.nodes f ≡ true) (sym (listed_in n h))
          (subst (λ (k : ℕ). record_keeps k (records_in bytes n) ≡ true) (sym nodes_are) (kept_in n (omega (arith, nodes_are))))

  module _ (small : AreBytes bytes) where
    same_bytes : chart_bytes (header_given (heading_of chart.header)) (listed (lists_of chart)) chart.header.nodes ≡ bytes
    same_bytes =
        bytes-again bytes small (header_given (heading_of chart.header)) (listed (lists_of chart)) chart.header.nodes long-in (sym header-taken) (λ n h. sym (listed_in n h))

    none-again : (lent : List ℕ) → length bytes ≤ length lent → NoneApplies (write_cases (heading_of chart.header) (lists_of chart) lent)
    none-again lent room =
        let given : List (Case Refusal) = field_cases (header_given (heading_of chart.header)) (all_long chart.header.nodes (lists_of chart)) (listed (lists_of chart)) in
        none_both given (room_cases chart.header.nodes lent)
        (none-applies refused given (accepted (chart_given (heading_of chart.header) (lists_of chart))) (accepted chart) (λ x q. let z : ◌≡◌ {A = ℕ} 0 1 = cc in omega arith)
        (sym (made-read (heading_of chart.header) (lists_of chart) chart.header.nodes (lists-are chart) fit-again.header fit-again.records) ∙ ap read_chart same_bytes ∙ read))
        (le-ltb (length lent) (chart_length chart.header.nodes) (omega (arith, long-in)), tt)

    pub writes_again : (lent : List ℕ) → length bytes ≤ length lent → wrote (heading_of chart.header) (lists_of chart) lent ≡ record { answer = Ok (length bytes); chart = written bytes lent }
    writes_again lent room =
        none_written (heading_of chart.header) (lists_of chart) lent (none-again lent room)
        ∙ λ i. record { answer = Ok (sym long-in i); chart = written (same_bytes i) lent }
