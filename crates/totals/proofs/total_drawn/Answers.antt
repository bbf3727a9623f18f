use mathlib.Core.Bool.{not}
use borrow.Author.Tests.{not-true, not-false, lt-ltb, le-ltb}
use mathlib.Core.Bool.{Bool, ◌&&◌}
use mathlib.Core.Path.{sym, ap, ◌∙◌}
use Prim.Native.Nat.{ℕ}
use lib.Dec.{eqb}
use lib.ListN.{length}
use Rattle.plan.specs.AsPlan.{drawn_as}
use Rattle.tables.specs.AsTable.{lent_as}
use Rattle.totals.specs.declared.Totals.{Totals}
use Rattle.totals.specs.Inner.{figures_of}
use Rattle.totals.proofs.Answering.{length-answer, costs-answer, crossed-answer, unmarked-answer, sums-answer}
use Rattle.totals.proofs.total_drawn.Goals as goal

pub returns-then-not-whole : goal.returns-then-not-whole
returns-then-not-whole c = let whole : ℕ → Bool = λ nodes. eqb (length c.args.floors.now) nodes && eqb (length c.args.ceilings.now) nodes in
    let n = c.nodes-nodes in
    length-answer (drawn_as c.args.table.plan) (lent_as c.args.table.table) ((figures_of c.args.tariff c.args.floors.now c.args.ceilings.now)) n.result n.ensures (not-true (whole n.result) (ap not c.if-not-whole.true))

pub returns-then-tariff : goal.returns-then-tariff
returns-then-tariff c = let whole : ℕ → Bool = λ nodes. eqb (length c.args.floors.now) nodes && eqb (length c.args.ceilings.now) nodes in
    let n = c.nodes-nodes in
    costs-answer (drawn_as c.args.table.plan) (lent_as c.args.table.table) ((figures_of c.args.tariff c.args.floors.now c.args.ceilings.now)) n.result n.ensures (not-false (whole n.result) (ap not c.if-not-whole.false)) (lt-ltb _ _ c.if-tariff.true)

pub returns-in-Some : goal.returns-in-Some
returns-in-Some c = let whole : ℕ → Bool = λ nodes. eqb (length c.args.floors.now) nodes && eqb (length c.args.ceilings.now) nodes in
    let n = c.nodes-nodes in
    crossed-answer (drawn_as c.args.table.plan) (lent_as c.args.table.table) ((figures_of c.args.tariff c.args.floors.now c.args.ceilings.now)) n.result n.ensures (not-false (whole n.result) (ap not c.if-not-whole.false)) (le-ltb _ _ c.if-tariff.false) c.in-Some.node
    (sym c.first_crossed.ensures ∙ c.in-Some.is)

pub returns-in-Some-first_floor_at_unmarked : goal.returns-in-Some-first_floor_at_unmarked
returns-in-Some-first_floor_at_unmarked c = let whole : ℕ → Bool = λ nodes. eqb (length c.args.floors.now) nodes && eqb (length c.args.ceilings.now) nodes in
    let n = c.nodes-nodes in
    let found = c.in-Some-first_floor_at_unmarked in
    unmarked-answer (drawn_as c.args.table.plan) (lent_as c.args.table.table) ((figures_of c.args.tariff c.args.floors.now c.args.ceilings.now)) n.result n.ensures (not-false (whole n.result) (ap not c.if-not-whole.false)) (le-ltb _ _ c.if-tariff.false)
    (sym c.first_crossed.ensures ∙ c.in_default.is) found.node (sym c.first_floor_at_unmarked.ensures ∙ found.is)

pub returns : goal.returns
returns c = let whole : ℕ → Bool = λ nodes. eqb (length c.args.floors.now) nodes && eqb (length c.args.ceilings.now) nodes in
    let n = c.nodes-nodes in
    let sums = c.sum_nodes.ensures in
    sums-answer (drawn_as c.args.table.plan) (lent_as c.args.table.table) ((figures_of c.args.tariff c.args.floors.now c.args.ceilings.now)) n.result n.ensures (not-false (whole n.result) (ap not c.if-not-whole.false)) (le-ltb _ _ c.if-tariff.false)
    (sym c.first_crossed.ensures ∙ c.in_default.is) (sym c.first_floor_at_unmarked.ensures ∙ c.in_default-first_floor_at_unmarked.is) c.sum_nodes.result.low c.sum_nodes.result.high
    (ap (λ (t : Totals). t.low) sums)
    (ap (λ (t : Totals). t.high) sums)
