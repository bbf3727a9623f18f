use Rattle.std.proofs.Common.{rules}
use mathlib.Core.Path.{◌≡◌, ap, ◌∙◌}
use Rattle.chart.proofs.Answers.{reader-accepts, reader-refuses, found-array}
use Rattle.refusals.proofs.Saying.{says-too}
use Rattle.analysis.specs.Analysis.{Left, AnalysedSaid, analysis_refused, analysed, analysed_says, entry_buffers}
use Rattle.analysis.proofs.Answering.{held-drawn, short-refused, list-room, finishes-analysed}
use Rattle.analysis.proofs.settled.analyse.Goals as goal

-- What an analysis says.
abbrev left_says : Left → AnalysedSaid
left_says left = analysed_says left.answer

pub returns-in_err-accepted : goal.returns-in_err-accepted
unfolding analysed
returns-in_err-accepted c =
    let given : c.from_residual.result ≡ analysis_refused c.in_err-accepted.field-0.0 = search rules in
    let buffers = entry_buffers c.args.blocks.now c.args.must.now c.args.may.now c.args.marks.now c.args.classes.now in
    let left : Left = record { answer = analysis_refused c.in_err-accepted.field-0.0; buffers = buffers } in
    let refused : left ≡ analysed c.args.chart.now c.args.allowance buffers =
    rw (reader-refuses c.args.chart.now c.draw-reading.result c.draw-reading.ensures.value _ c.in_err-accepted.was)
    in
    let both = says-too left_says (ap (λ answer. record { answer = answer; buffers = buffers }) given ∙ refused) in
    record { result_value = both.0; result_value_2 = both.1 }

pub short_for-requires-clause-plan_bound : goal.short_for-requires-clause-plan_bound
short_for-requires-clause-plan_bound c =
    let buffers = entry_buffers c.args.blocks.now c.args.must.now c.args.may.now c.args.marks.now c.args.classes.now in
    let found = reader-accepts c.args.chart.now c.draw-reading.result c.draw-reading.ensures.value _ c.in_ok-accepted.was in
    let drawn = held-drawn c.args.chart.now _ _ c.draw-reading.ensures.draws _ _ _ found c.args.allowance buffers in
    (drawn.few_nodes, drawn.few_blocks)

pub returns-then-short_for : goal.returns-then-short_for
returns-then-short_for c =
    let buffers = entry_buffers c.args.blocks.now c.args.must.now c.args.may.now c.args.marks.now c.args.classes.now in
    let found = reader-accepts c.args.chart.now c.draw-reading.result c.draw-reading.ensures.value _ c.in_ok-accepted.was in
    let both = says-too left_says (short-refused c.args.chart.now _ _ c.draw-reading.ensures.draws _ _ _ found c.args.allowance buffers c.short_for.result c.short_for.ensures c.if-short_for.true) in
    record { result_value = both.0; result_value_2 = both.1 }

pub write_blocks-requires : goal.write_blocks-requires
write_blocks-requires c =
    let buffers = entry_buffers c.args.blocks.now c.args.must.now c.args.may.now c.args.marks.now c.args.classes.now in
    let found = reader-accepts c.args.chart.now c.draw-reading.result c.draw-reading.ensures.value _ c.in_ok-accepted.was in
    (found-array found, list-room c.args.chart.now _ _ c.draw-reading.ensures.draws _ _ _ found c.args.allowance buffers c.short_for.result c.short_for.ensures c.if-short_for.false)

pub invariant_of-drawn : goal.invariant_of-drawn
invariant_of-drawn c =
    let buffers = entry_buffers c.args.blocks.now c.args.must.now c.args.may.now c.args.marks.now c.args.classes.now in
    let found = reader-accepts c.args.chart.now c.draw-reading.result c.draw-reading.ensures.value _ c.in_ok-accepted.was in
    record { drawn = held-drawn c.args.chart.now _ _ c.draw-reading.ensures.draws _ _ _ found c.args.allowance buffers }

pub returns : goal.returns
returns c =
    let buffers = entry_buffers c.args.blocks.now c.args.must.now c.args.may.now c.args.marks.now c.args.classes.now in
    let found = reader-accepts c.args.chart.now c.draw-reading.result c.draw-reading.ensures.value _ c.in_ok-accepted.was in
    let both =
    says-too left_says
    (finishes-analysed c.args.chart.now _ _ c.draw-reading.ensures.draws _ _ _ found c.args.allowance buffers c.short_for.result c.short_for.ensures c.if-short_for.false
    _ c.write_blocks.ensures c.settle_table.result _ _ c.settle_table.ensures)
    in
    record { result_value = both.0; result_value_2 = both.1 }
