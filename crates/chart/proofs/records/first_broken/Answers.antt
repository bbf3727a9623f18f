use borrow.Author.Rules.{rules}
use borrow.Author.Tests.{lt-ltb, le-ltb}
use mathlib.Core.Bool.{not}
use mathlib.Core.Path.{◌≡◌, sym, ap, ◌∙◌}
use Rattle.lists.proofs.Choice.{first_passes, first_found, first_ends}
use Rattle.chart.specs.declared.records.RecordFields.{RecordFields}
use Rattle.chart.specs.Record.{record_keeps}
use Rattle.chart.specs.Chart.{records_in, first_broken, broken_at}
use Rattle.chart.proofs.records.first_broken.Goals as goal

pub returns-then-not-keeps : goal.returns-then-not-keeps
unfolding first_broken
returns-then-not-keeps c = let a = c.args in
    let l = c.loop-n in
    rw (first_found a.nodes l.n (broken_at (records_in a.chart.now) a.nodes) c.loop-n-test.true ((let the-judged : broken_at (records_in c.args.chart.now) c.args.nodes c.loop-n.n ≡ not c.record_keeps-keeps.result = sym (ap not (c.record_keeps-keeps.ensures ∙ ap (λ (f : RecordFields). record_keeps c.args.nodes f) c.fields_at.ensures)) in the-judged) ∙ (ap not c.if-not-keeps.true)) l.invariant.1, lt-ltb l.n a.nodes c.loop-n-test.true)

pub loop-n-preserved : goal.loop-n-preserved
loop-n-preserved c = let a = c.args in
    let l = c.loop-n in
    (search rules, first_passes a.nodes l.n (broken_at (records_in a.chart.now) a.nodes) c.loop-n-test.true ((let the-judged : broken_at (records_in c.args.chart.now) c.args.nodes c.loop-n.n ≡ not c.record_keeps-keeps.result = sym (ap not (c.record_keeps-keeps.ensures ∙ ap (λ (f : RecordFields). record_keeps c.args.nodes f) c.fields_at.ensures)) in the-judged) ∙ (ap not c.if-not-keeps.false)) l.invariant.1)

pub returns : goal.returns
unfolding first_broken
returns c = let a = c.args in
    let l = c.loop-n in
    rw (first_ends a.nodes l.n (broken_at (records_in a.chart.now) a.nodes) c.loop-n-test.false l.invariant.1, le-ltb l.n a.nodes c.loop-n-test.false)
