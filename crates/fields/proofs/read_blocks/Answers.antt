use Rattle.std.specs.Prelude.{Err}
use Rattle.std.proofs.Common.{rules}
use mathlib.Core.Path.{ap, ◌≡◌, ◌∙◌}
use Rattle.chart.proofs.Answers.{reader-accepts, reader-refuses, found-array}
use Rattle.refusals.specs.declared.Refusal.TheVariants.{ShortBuffer}
use Rattle.fields.specs.Fields.{BlocksLeft, BlocksSaid, blocks_say, refuse_blocks, blocks_read}
use Rattle.fields.proofs.Answered.{blocks-refused, blocks-short, blocks-listed}
use Rattle.fields.proofs.read_blocks.Goals as goal

-- What an answer says, beside the list that is left.
abbrev left_says : BlocksLeft → BlocksSaid
left_says left = blocks_say left.answer

pub returns-in_err-accepted : goal.returns-in_err-accepted
returns-in_err-accepted c =
    let a = c.args in
    let r = c.read-reading in
    let given : c.from_residual.result ≡ Err c.in_err-accepted.field-0.0 = search rules in
    let e : record { answer = c.from_residual.result; blocks = a.blocks.now } ≡ blocks_read a.chart.now a.blocks.now =
    ap (λ answer. record { answer = answer; blocks = a.blocks.now }) given
    ∙ blocks-refused a.chart.now _ (reader-refuses a.chart.now r.result r.ensures.value _ c.in_err-accepted.was) a.blocks.now
    in
    record { result_value = e; result_value_2 = ap left_says e }

pub returns-then-blocks-count : goal.returns-then-blocks-count
returns-then-blocks-count c =
    let a = c.args in
    let r = c.read-reading in
    let e : refuse_blocks a.blocks.now ShortBuffer ≡ blocks_read a.chart.now a.blocks.now =
    blocks-short a.chart.now _ _ _ (reader-accepts a.chart.now r.result r.ensures.value _ c.in_ok-accepted.was) a.blocks.now c.if-blocks-count.true
    in
    record { result_value = e; result_value_2 = ap left_says e }

pub write_blocks-requires : goal.write_blocks-requires
write_blocks-requires c =
    let r = c.read-reading in
    (found-array (reader-accepts c.args.chart.now r.result r.ensures.value _ c.in_ok-accepted.was), c.if-blocks-count.false)

pub returns : goal.returns
returns c =
    let a = c.args in
    let r = c.read-reading in
    let e =
    blocks-listed a.chart.now _ _ _ (reader-accepts a.chart.now r.result r.ensures.value _ c.in_ok-accepted.was) a.blocks.now _ c.if-blocks-count.false c.write_blocks.ensures
    in
    record { result_value = e; result_value_2 = ap left_says e }
