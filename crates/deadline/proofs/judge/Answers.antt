use Rattle.std.specs.Prelude.{Err}
use Rattle.std.proofs.Common.{rules}
use mathlib.Core.Path.{◌≡◌, sym, ap, ◌∙◌}
use Rattle.deadline.specs.Deadline.{judged_totals, judged, judged_say}
use Rattle.deadline.specs.Widths.{SixteenBits}
use Rattle.deadline.proofs.Below.{totals_below}
use Rattle.deadline.proofs.judge.Goals as goal

-- What is lent has numbers of 16 bits.
pub judge_totals-requires : goal.judge_totals-requires
judge_totals-requires c =
    let widths : SixteenBits (record { costs = record { hit = c.args.hit; miss = c.args.miss }; floors = c.args.floors.now; ceilings = c.args.ceilings.now }) = record {
      hit = c.ranges.hit.fits;
      miss = c.ranges.miss.fits;
      floors = λ n. (c.type_inv.floors n).fits;
      ceilings = λ n. (c.type_inv.ceilings n).fits;
    } in
    totals_below _ _ _ _ _ (sym c.in_ok-totals.was ∙ c.total.ensures.value) widths

pub returns-clause-value : goal.returns-clause-value
unfolding judged
returns-clause-value c = c.judge_totals.ensures ∙ ap (judged_totals c.args.sheet c.args.deadline) (sym c.in_ok-totals.was ∙ c.total.ensures.value)

pub returns-clause-result_value : goal.returns-clause-result_value
unfolding judged
returns-clause-result_value c =
    ap judged_say (c.judge_totals.ensures ∙ ap (judged_totals c.args.sheet c.args.deadline) (sym c.in_ok-totals.was ∙ c.total.ensures.value))

pub returns-in_err-totals-clause-value : goal.returns-in_err-totals-clause-value
unfolding judged
returns-in_err-totals-clause-value c =
    let given : c.from_residual.result ≡ Err c.in_err-totals.field-0.0 = search rules in
    given ∙ ap (judged_totals c.args.sheet c.args.deadline) (sym c.in_err-totals.was ∙ c.total.ensures.value)

pub returns-in_err-totals-clause-result_value : goal.returns-in_err-totals-clause-result_value
unfolding judged
returns-in_err-totals-clause-result_value c =
    let given : c.from_residual.result ≡ Err c.in_err-totals.field-0.0 = search rules in
    ap judged_say (given ∙ ap (judged_totals c.args.sheet c.args.deadline) (sym c.in_err-totals.was ∙ c.total.ensures.value))
