use mathlib.Core.Path.{ap}
use mathlib.Core.Bool.{not}
use mathlib.Core.Path.{sym, ◌∙◌}
use borrow.Author.Tests.{lt-ltb, le-ltb, not-true, not-false}
use Rattle.plan.specs.AsPlan.{drawn_as}
use Rattle.tables.specs.AsTable.{lent_as}
use Rattle.certificate.specs.Given.{question_in}
use Rattle.certificate.proofs.Answering.{costs-answer, length-answer, range-answer, certified-answer}
use Rattle.certificate.proofs.Asked.bound_drawn.Goals as goal

pub returns-then-tariff : goal.returns-then-tariff
returns-then-tariff c = let a = c.args.self.now in
    let n = c.nodes-nodes in
    costs-answer (drawn_as c.args.table.plan) (lent_as c.args.table.table) (question_in a) n.result n.ensures (lt-ltb _ _ c.if-tariff.true)

pub returns-then-not-long : goal.returns-then-not-long
returns-then-not-long c = let a = c.args.self.now in
    let n = c.nodes-nodes in
    let l = c.lengths_fit-long in
    length-answer (drawn_as c.args.table.plan) (lent_as c.args.table.table) (question_in a) n.result n.ensures (le-ltb _ _ c.if-tariff.false) (sym l.ensures ∙ not-true l.result (ap not c.if-not-long.true))

pub returns-then-not-small : goal.returns-then-not-small
returns-then-not-small c = let a = c.args.self.now in
    let n = c.nodes-nodes in
    let l = c.lengths_fit-long in
    let r = c.in_range-small in
    range-answer (drawn_as c.args.table.plan) (lent_as c.args.table.table) (question_in a) n.result n.ensures (le-ltb _ _ c.if-tariff.false) (sym l.ensures ∙ not-false l.result (ap not c.if-not-long.false)) (sym r.ensures ∙ not-true r.result (ap not c.if-not-small.true))

pub returns : goal.returns
returns c = let a = c.args.self.now in
    let n = c.nodes-nodes in
    let l = c.lengths_fit-long in
    let r = c.in_range-small in
    c.certified.ensures
    ∙ certified-answer (drawn_as c.args.table.plan) (lent_as c.args.table.table) (question_in a) n.result n.ensures (le-ltb _ _ c.if-tariff.false) (sym l.ensures ∙ not-false l.result (ap not c.if-not-long.false)) (sym r.ensures ∙ not-false r.result (ap not c.if-not-small.false))
