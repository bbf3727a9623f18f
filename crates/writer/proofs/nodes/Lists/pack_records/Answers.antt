use borrow.Author.Rules.{rules}
use borrow.Author.Tests.{not-false, le-ltb, lt-ltb}
use mathlib.Core.Bool.{not, true, false}
use mathlib.Core.Path.{◌≡◌, refl, sym, ap, ◌∙◌}
use Prim.Native.Nat.{ℕ, ◌*◌}
use native.Mathlib.Omega.{arith}
use lib.Dec.{ltb}
use Rattle.lists.specs.Loops.{patch}
use Rattle.lists.proofs.Choice.{first_passes, first_found, first_ends}
use Rattle.chart.specs.declared.records.RecordFields.{RecordFields}
use Rattle.chart.specs.Layout.{record_widths}
use Rattle.chart.specs.Record.{record_keeps}
use Rattle.chart.specs.Chart.{first_broken, broken_at}
use Rattle.writer.specs.Packing.{packed, record_values, records_word, byte_of}
use Rattle.writer.specs.Given.{listed}
use Rattle.writer.specs.Held.{lists_in}
use Rattle.writer.proofs.Fits.{record-fits}
use Rattle.writer.proofs.Stored.{record-turn}
use Rattle.writer.proofs.nodes.Lists.pack_records.Goals as goal

pub returns-then-not-record_keeps : goal.returns-then-not-record_keeps
unfolding first_broken
returns-then-not-record_keeps c =
    let lists = lists_in c.args.self.now in
    let judged : broken_at (listed lists) c.args.nodes c.loop-n.n ≡ not c.record_keeps.result =
    sym (ap not (c.record_keeps.ensures ∙ ap (λ (f : RecordFields). record_keeps c.args.nodes f) c.fields_given-fields.ensures))
    in
    let l = c.loop-n in
    let found : first_broken (listed lists) c.args.nodes ≡ l.n =
    first_found c.args.nodes l.n (broken_at (listed lists) c.args.nodes) c.loop-n-test.true (judged ∙ (ap not c.if-not-record_keeps.true)) l.invariant.1.1.0
    in
    let before : ltb l.n c.args.nodes ≡ true = lt-ltb _ _ c.loop-n-test.true in
    record { answered = rw (found, before) refl; laid = rw (found, before) (λ h. cc) }

pub pack_record-requires : goal.pack_record-requires
pack_record-requires c = record-fits c.args.nodes c.fields_given-fields.result (sym c.record_keeps.ensures ∙ not-false _ (ap not c.if-not-record_keeps.false)) c.requires.nodes_le_most_nodes

pub loop-n-preserved : goal.loop-n-preserved
loop-n-preserved c =
    let lists = lists_in c.args.self.now in
    let judged : broken_at (listed lists) c.args.nodes c.loop-n.n ≡ not c.record_keeps.result =
    sym (ap not (c.record_keeps.ensures ∙ ap (λ (f : RecordFields). record_keeps c.args.nodes f) c.fields_given-fields.ensures))
    in
    let l = c.loop-n in
    let word = c.pack_record in (
      search rules,
      (
        search rules,
        (
          first_passes c.args.nodes l.n (broken_at (listed lists) c.args.nodes) c.loop-n-test.true (judged ∙ (ap not c.if-not-record_keeps.false)) l.invariant.1.1.0,
          c.put_word.ensures
              ∙ record-turn (listed lists) c.args.chart.now l.chart l.n word.result l.invariant.1.1.1
              (word.ensures ∙ ap (λ (f : RecordFields). packed record_widths (record_values f)) c.fields_given-fields.ensures),
        ),
      ),
    )

pub returns : goal.returns
unfolding first_broken
returns c =
    let lists = lists_in c.args.self.now in
    let l = c.loop-n in
    let e : l.n ≡ c.args.nodes = omega arith in
    let found : first_broken (listed lists) c.args.nodes ≡ l.n =
    first_ends c.args.nodes l.n (broken_at (listed lists) c.args.nodes) c.loop-n-test.false l.invariant.1.1.0
    in
    let none : ltb l.n c.args.nodes ≡ false = le-ltb _ _ (omega arith) in
    record {
      answered = rw (found, none) refl;
      laid = λ _. l.invariant.1.1.1 ∙ ap (λ (n : ℕ). patch c.args.chart.now 8 (8 * n) (byte_of (records_word (listed lists)))) e;
    }
