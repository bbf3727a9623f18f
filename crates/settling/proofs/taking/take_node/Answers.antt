use mathlib.Core.Path.{sym, subst, ◌∙◌}
use native.Mathlib.Omega.{arith}
use Rattle.chart.specs.Record.{arrows_of}
use Rattle.plan.specs.AsPlan.{drawn_as}
use Rattle.plan.proofs.Holding.{node-leads, record-in}
use Rattle.cache.specs.Ages.{Ages}
use Rattle.tables.specs.Lent.{Lent}
use Rattle.settling.specs.Inner.{sent_all, TakenIn}
use Rattle.settling.proofs.Taken.{due-taken, due-agrees}
use Rattle.settling.proofs.taking.take_node.Goals as goal

pub row_after-requires-clause-record_in : goal.row_after-requires-clause-record_in
row_after-requires-clause-record_in c = rw (c.blocks-blocks.ensures, c.node-node.ensures) (record-in _ _ c.args.plan.drawn c.args.n c.requires.n_bound.0)

pub send_row-requires-clause-leads : goal.send_row-requires-clause-leads
send_row-requires-clause-leads c =
    (rw (c.nodes-nodes.ensures, c.node-node.ensures) (node-leads _ _ c.args.plan.drawn c.args.n c.requires.n_bound.0), omega (arith, c.nodes-nodes.ensures, c.requires.room_for.1, c.take_out.auto))

pub returns : goal.returns
returns c = let a = c.args in
    let lent : Lent = record { must = a.must.now; may = a.may.now; marks = a.marks.now } in
    let roomy = c.requires.room_for.0 in
    let blocks = c.blocks-blocks in
    let node = c.node-node in
    let row : Ages = record { must = c.row_after.new.musts; may = c.row_after.new.mays } in
    let after = rw (blocks.ensures, node.ensures) at c.row_after.ensures in
    let agree = due-agrees _ _ a.plan.drawn a.n c.requires.n_bound.0 lent a.changed a.due.now c.requires.stands_in c.requires.room_for.1 c.requires.n_bound.1 roomy.must_room roomy.may_room row after in
    let sent = c.send_row.ensures
    ∙ (λ i. sent_all (blocks.ensures i) row (arrows_of (node.ensures i).targets) (record { lent = lent; changed = a.changed; due = c.take_out.ensures i })) in
    subst (TakenIn (drawn_as a.plan) a.n (record { lent = lent; changed = a.changed; due = a.due.now })) (sym sent)
    (due-taken _ _ a.plan.drawn a.n c.requires.n_bound.0 lent a.changed a.due.now c.requires.stands_in c.requires.room_for.1 c.requires.n_bound.1 row agree)
