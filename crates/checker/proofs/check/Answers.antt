use Rattle.std.specs.Prelude.{Err}
use Rattle.std.proofs.Common.{rules}
use mathlib.Core.Path.{◌≡◌, ◌∙◌, ap}
use Rattle.chart.proofs.Answers.{reader-accepts, reader-refuses}
use Rattle.tables.specs.Lent.{Lent}
use Rattle.checker.specs.Checker.{checked, checked_says}
use Rattle.checker.proofs.Answers.{checked-drawn}
use Rattle.checker.proofs.check.Goals as goal

pub invariant_of-plan : goal.invariant_of-plan
invariant_of-plan c = record { drawn = c.draw.ensures.draws.drawn _ (reader-accepts _ c.draw.result c.draw.ensures.value _ c.in_ok-draw.was).read }

pub returns-in_err-draw : goal.returns-in_err-draw
unfolding checked
returns-in_err-draw c =
    let given : c.from_residual.result ≡ Err c.in_err-draw.field-0.0 = search rules in
    let lent : Lent = record { must = c.args.must.now; may = c.args.may.now; marks = c.args.marks.now } in
    let refused : Err c.in_err-draw.field-0.0 ≡ checked c.args.chart.now lent = rw (reader-refuses _ c.draw.result c.draw.ensures.value _ c.in_err-draw.was) in
    record { value = given ∙ refused; result_value = ap checked_says (given ∙ refused) }

pub returns : goal.returns
returns c =
    let a = c.args in
    let e = c.check_drawn.ensures ∙ checked-drawn (record { must = a.must.now; may = a.may.now; marks = a.marks.now }) c.draw.ensures.draws (reader-accepts _ c.draw.result c.draw.ensures.value _ c.in_ok-draw.was).read in
    record { value = e; result_value = ap checked_says e }
