use Rattle.std.specs.Prelude.{Err}
use Prim.Native.Nat.{ℕ}
use mathlib.Core.Bool.{Bool, not}
use mathlib.Core.List.{List}
use mathlib.Core.Path.{sym, ap, ◌∙◌}
use Rattle.lists.specs.Choice.{first}
use Rattle.lists.proofs.Choice.{found-some, found-none}
use Rattle.refusals.specs.declared.Refusal.TheVariants.{CertificateFails}
use Rattle.facts.specs.Certificate.{holds_at}
use Rattle.plan.specs.AsPlan.{drawn_as}
use Rattle.tables.specs.AsTable.{lent_as}
use Rattle.certificate.specs.Inner.{peak_by, top_by, bound_by, plan_claim}
use Rattle.certificate.specs.Given.{facts_in, question_in}
use Rattle.certificate.proofs.Claimed.{failing-is, peak-is, loads-are, bound-is}
use Rattle.certificate.proofs.Answering.{fails-answer, bound-answer}
use Rattle.certificate.proofs.Fitting.{plan-laid}
use Rattle.certificate.proofs.Asked.certified.Goals as goal

pub first_failing-requires-clause-plan_laid : goal.first_failing-requires-clause-plan_laid
first_failing-requires-clause-plan_laid c = plan-laid c.args.table.plan.columns.now c.args.table.plan.numbers.now c.args.table.plan.drawn

pub returns-in-Some : goal.returns-in-Some
returns-in-Some c =
    let a = c.args.self.now in
    let fails : List ℕ → ℕ → Bool = λ classes n. not (holds_at (plan_claim a.price (record { classes = classes; coefficients = a.coefficients.now; multipliers = a.multipliers.now; potentials = a.potentials.now }) c.args.table.plan.numbers.now c.args.table.table.marks.now) n) in
    let here : ℕ = first c.args.nodes (fails c.write_classes.new.classes) in
    let here_is =
    ap (λ (k : ℕ). first k (fails c.write_classes.new.classes)) c.requires.nodes_value
    ∙ failing-is c.args.table.plan.columns.now c.args.table.plan.numbers.now c.args.table.plan.drawn (lent_as c.args.table.table) c.write_classes.new.classes _ c.write_classes.ensures a.price (facts_in a) a.multipliers.now a.potentials.now
    in
    let node = found-some c.args.nodes here c.in-Some.node (sym c.first_failing.ensures ∙ c.in-Some.is) in
    ap (λ (k : ℕ). Err (CertificateFails k)) (sym node.1)
    ∙ fails-answer (drawn_as c.args.table.plan) (lent_as c.args.table.table) (question_in a) c.args.nodes c.requires.nodes_value here here_is node.0

pub returns : goal.returns
returns c =
    let a = c.args.self.now in
    let fails : List ℕ → ℕ → Bool = λ classes n. not (holds_at (plan_claim a.price (record { classes = classes; coefficients = a.coefficients.now; multipliers = a.multipliers.now; potentials = a.potentials.now }) c.args.table.plan.numbers.now c.args.table.table.marks.now) n) in
    let here : ℕ = first c.args.nodes (fails c.write_classes.new.classes) in
    let here_is =
    ap (λ (k : ℕ). first k (fails c.write_classes.new.classes)) c.requires.nodes_value
    ∙ failing-is c.args.table.plan.columns.now c.args.table.plan.numbers.now c.args.table.plan.drawn (lent_as c.args.table.table) c.write_classes.new.classes _ c.write_classes.ensures a.price (facts_in a) a.multipliers.now a.potentials.now
    in
    let at = c.peak_of-peak.ensures.value
    ∙ (λ i. peak_by c.args.table.table.marks.now a.potentials.now (c.entry-entry.ensures i) (c.requires.nodes_value i))
    ∙ peak-is c.args.table.plan.columns.now c.args.table.plan.numbers.now c.args.table.plan.drawn (lent_as c.args.table.table) c.write_classes.new.classes _ c.write_classes.ensures a.price (facts_in a) a.multipliers.now a.potentials.now in
    let top = c.top_at-top.ensures.value ∙ ap (top_by a.multipliers.now a.limits.now a.potentials.now) at in
    let loads = c.loads_of-loads.ensures.value ∙ loads-are c.args.table.plan.columns.now c.args.table.plan.numbers.now c.args.table.plan.drawn (lent_as c.args.table.table) c.write_classes.new.classes _ c.write_classes.ensures a.price (facts_in a) a.multipliers.now a.potentials.now in
    bound-answer (drawn_as c.args.table.plan) (lent_as c.args.table.table) (question_in a) c.args.nodes c.requires.nodes_value here here_is
    (found-none c.args.nodes here (sym c.first_failing.ensures ∙ c.in_default.is))
    c.bound_at.result
    (c.bound_at.ensures ∙ (λ i. bound_by a.price.side a.price.denominator (top i) (loads i)) ∙ bound-is c.args.table.plan.columns.now c.args.table.plan.numbers.now c.args.table.plan.drawn (lent_as c.args.table.table) c.write_classes.new.classes _ c.write_classes.ensures a.price (facts_in a) a.multipliers.now a.potentials.now a.price.side)
