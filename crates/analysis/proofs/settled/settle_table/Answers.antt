use Rattle.ages.specs.Plan.{Plan}
use Rattle.plan.specs.AsPlan.{drawn_as}
use Rattle.tables.specs.Lent.{Lent}
use Rattle.analysis.proofs.Finishing.{settled-left, spent-left}
use Rattle.analysis.proofs.settled.settle_table.Goals as goal

pub returns-in-Some : goal.returns-in-Some
returns-in-Some c = let held : Plan = drawn_as c.args.plan in
    let lent : Lent = record { must = c.args.must.now; may = c.args.may.now; marks = c.args.marks.now } in
    let settle = c.settle-settling in
    let blocks = c.blocks-blocks in
    settled-left held lent _ c.start_table.ensures c.args.allowance c.args.classes.now settle.result _ settle.ensures
    blocks.result blocks.ensures _ c.in-Some.is _ c.write_classes.ensures

pub returns-in-None : goal.returns-in-None
returns-in-None c = let held : Plan = drawn_as c.args.plan in
    let lent : Lent = record { must = c.args.must.now; may = c.args.may.now; marks = c.args.marks.now } in
    let settle = c.settle-settling in
    let blocks = c.blocks-blocks in
    let nodes = c.nodes-nodes in
    spent-left held lent _ c.start_table.ensures c.args.allowance c.args.classes.now settle.result _ settle.ensures
    blocks.result blocks.ensures c.in-None.is c.requires.plan_in_bounds _ c.clear.ensures nodes.result nodes.ensures _ c.fill.ensures
