use Rattle.std.specs.Prelude.{Ok, Err, false, true}
use Rattle.std.proofs.Common.{rules}
use mathlib.Core.Path.{◌≡◌, sym, ap, ◌∙◌}
use Rattle.chart.proofs.Answers.{reader-accepts, reader-refuses}
use Rattle.plan.specs.Listed.{plan_in}
use Rattle.tables.specs.Lent.{Lent}
use Rattle.checker.specs.Checker.{checked_by}
use Rattle.checker.proofs.Tabled.{passing-roomy}
use Rattle.certificate.specs.Bound.{Question, asked, bounded, bounded_say}
use Rattle.certificate.proofs.Answering.{short-bound, no_bound, yes-bound}
use Rattle.certificate.proofs.bound.Goals as goal

pub returns-in_err-draw : goal.returns-in_err-draw
unfolding bounded
returns-in_err-draw c =
    let given : c.from_residual.result ≡ Err c.in_err-draw.field-0.0 = search rules in
    let lent : Lent = record { must = c.args.must.now; may = c.args.may.now; marks = c.args.marks.now } in
    let question : Question = asked c.args.side c.args.hit c.args.miss (record { coefficients = c.args.coefficients.now; limits = c.args.limits.now }) (record { multipliers = c.args.multipliers.now; potentials = c.args.potentials.now; denominator = c.args.denominator }) in
    let refused : Err c.in_err-draw.field-0.0 ≡ bounded c.args.chart.now lent question = rw (reader-refuses _ c.draw.result c.draw.ensures.value _ c.in_err-draw.was) in
    record { value = given ∙ refused; result_value = ap bounded_say (given ∙ refused) }

pub invariant_of-drawn : goal.invariant_of-drawn
invariant_of-drawn c = record { drawn = c.draw.ensures.draws.drawn _ (reader-accepts _ c.draw.result c.draw.ensures.value _ c.in_ok-draw.was).read }

pub returns-in_err-passes : goal.returns-in_err-passes
returns-in_err-passes c =
    let given : c.from_residual-in_err-passes.result ≡ Err c.in_err-passes.field-0.0 = search rules in
    let lent : Lent = record { must = c.args.must.now; may = c.args.may.now; marks = c.args.marks.now } in
    let question : Question = asked c.args.side c.args.hit c.args.miss (record { coefficients = c.args.coefficients.now; limits = c.args.limits.now }) (record { multipliers = c.args.multipliers.now; potentials = c.args.potentials.now; denominator = c.args.denominator }) in
    let e = given ∙ short-bound c.draw.ensures.draws (reader-accepts _ c.draw.result c.draw.ensures.value _ c.in_ok-draw.was).read lent question _ (sym c.in_err-passes.was ∙ c.check_drawn.ensures) in
    record { value = e; result_value = ap bounded_say e }

pub returns-then-not-passes : goal.returns-then-not-passes
returns-then-not-passes c =
    let lent : Lent = record { must = c.args.must.now; may = c.args.may.now; marks = c.args.marks.now } in
    let question : Question = asked c.args.side c.args.hit c.args.miss (record { coefficients = c.args.coefficients.now; limits = c.args.limits.now }) (record { multipliers = c.args.multipliers.now; potentials = c.args.potentials.now; denominator = c.args.denominator }) in
    let fails : Ok false ≡ checked_by (plan_in c.draw.new.columns c.draw.new.plan) lent = ap Ok (sym c.if-not-passes.true) ∙ sym c.in_ok-passes.was ∙ c.check_drawn.ensures in
    let e = no_bound c.draw.ensures.draws (reader-accepts _ c.draw.result c.draw.ensures.value _ c.in_ok-draw.was).read lent question fails in
    record { value = e; result_value = ap bounded_say e }

pub invariant_of-table : goal.invariant_of-table
invariant_of-table c =
    let lent : Lent = record { must = c.args.must.now; may = c.args.may.now; marks = c.args.marks.now } in
    record { roomy = passing-roomy c.draw.ensures.draws lent (ap Ok (sym c.if-not-passes.false) ∙ sym c.in_ok-passes.was ∙ c.check_drawn.ensures) }

pub returns : goal.returns
returns c =
    let lent : Lent = record { must = c.args.must.now; may = c.args.may.now; marks = c.args.marks.now } in
    let question : Question = asked c.args.side c.args.hit c.args.miss (record { coefficients = c.args.coefficients.now; limits = c.args.limits.now }) (record { multipliers = c.args.multipliers.now; potentials = c.args.potentials.now; denominator = c.args.denominator }) in
    let passes : Ok true ≡ checked_by (plan_in c.draw.new.columns c.draw.new.plan) lent = ap Ok (sym c.if-not-passes.false) ∙ sym c.in_ok-passes.was ∙ c.check_drawn.ensures in
    let e = c.bound_drawn.ensures ∙ yes-bound c.draw.ensures.draws (reader-accepts _ c.draw.result c.draw.ensures.value _ c.in_ok-draw.was).read lent question passes in
    record { value = e; result_value = ap bounded_say e }
