use borrow.Author.Rules.{rules}
use Prim.Native.Nat.{◌+◌}
use mathlib.Core.Path.{refl}
use native.Mathlib.Omega.{arith}
use Rattle.ages.specs.Plan.{Plan}
use Rattle.plan.specs.AsPlan.{drawn_as}
use Rattle.tables.specs.Lent.{Lent}
use Rattle.settling.specs.Inner.{StandsAt}
use Rattle.settling.proofs.Runs.{pass-begins, pass-stands, pass-turn, pass-skips, pass-ends}
use Rattle.settling.proofs.settling.pass.Goals as goal

pub loop-n-init : goal.loop-n-init
loop-n-init c = let held : Plan = drawn_as c.args.plan in
    let lent : Lent = record { must = c.args.must.now; may = c.args.may.now; marks = c.args.marks.now } in
    let stands : StandsAt held 0 lent c.args.due.now = c.requires.stands_in in
    let nodes = c.nodes-nodes in
    let f = c.first_from-n.ensures in
    (f.within, (refl, (refl, (refl, (refl, ((λ h. (f.is_in_set h).1), pass-skips held c.args.plan.drawn.sound lent c.args.due.now stands 0 _ (pass-begins held c.args.plan.drawn.sound lent c.args.due.now stands) c.first_from-n.result (omega arith) (rw nodes.ensures at f)))))))

pub take_node-changed-requires-clause-stands_in : goal.take_node-changed-requires-clause-stands_in
take_node-changed-requires-clause-stands_in c = let held : Plan = drawn_as c.args.plan in
    let lent : Lent = record { must = c.args.must.now; may = c.args.may.now; marks = c.args.marks.now } in
    let stands : StandsAt held 0 lent c.args.due.now = c.requires.stands_in in
    let l = c.loop-n in
    pass-stands held c.args.plan.drawn.sound lent c.args.due.now stands l.n _ l.invariant.1.1.1.1.1.1

pub loop-n-preserved : goal.loop-n-preserved
loop-n-preserved c = let held : Plan = drawn_as c.args.plan in
    let lent : Lent = record { must = c.args.must.now; may = c.args.may.now; marks = c.args.marks.now } in
    let stands : StandsAt held 0 lent c.args.due.now = c.requires.stands_in in
    let l = c.loop-n in
    let nodes = c.nodes-nodes in
    let f = c.first_from-n-in-loop-n.ensures in
    let taken = pass-turn held c.args.plan.drawn.sound lent c.args.due.now stands l.n _ l.invariant.1.1.1.1.1.1 _ c.take_node-changed.ensures in
    (f.within, (search rules, (search rules, (search rules, (search rules, ((λ h. (f.is_in_set h).1), pass-skips held c.args.plan.drawn.sound lent c.args.due.now stands (l.n + 1) _ taken c.first_from-n-in-loop-n.result (omega (arith, nodes.ensures, c.loop-n-test.true)) (rw nodes.ensures at f)))))))

pub returns : goal.returns
returns c = let held : Plan = drawn_as c.args.plan in
    let lent : Lent = record { must = c.args.must.now; may = c.args.may.now; marks = c.args.marks.now } in
    let stands : StandsAt held 0 lent c.args.due.now = c.requires.stands_in in
    let l = c.loop-n in
    pass-ends held c.args.plan.drawn.sound lent c.args.due.now stands l.n _ l.invariant.1.1.1.1.1.1 (omega (arith, c.nodes-nodes.ensures))
