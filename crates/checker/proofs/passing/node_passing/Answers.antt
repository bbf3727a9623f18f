use Rattle.plan.specs.Listed.{nodes_in}
use Rattle.plan.proofs.Holding.{node-leads, record-in}
use Rattle.tables.specs.AsTable.{lent_as}
use Rattle.tables.proofs.After.{row-loads}
use Rattle.checker.proofs.Testing.{unmarked-passing, marked-passing}
use Rattle.checker.proofs.passing.node_passing.Goals as goal

pub returns-then-ages-n-eq0 : goal.returns-then-ages-n-eq0
returns-then-ages-n-eq0 c = unmarked-passing c.args.table.plan.drawn (lent_as c.args.table.table) c.args.n c.blocks-blocks.ensures c.row_fits-fits.ensures c.if-ages-n-eq0.true c.row_zero.ensures

pub row_after-requires-clause-loads : goal.row_after-requires-clause-loads
row_after-requires-clause-loads c = rw c.blocks-blocks.ensures (row-loads _ _ c.args.table.plan.drawn c.args.n c.requires (lent_as c.args.table.table) c.args.table.roomy.must_room c.args.table.roomy.may_room)

pub row_after-requires-clause-record_in : goal.row_after-requires-clause-record_in
row_after-requires-clause-record_in c = rw (c.blocks-blocks.ensures, c.node-node.ensures) (record-in _ _ c.args.table.plan.drawn c.args.n c.requires)

pub targets_allow-allowed-requires : goal.targets_allow-allowed-requires
targets_allow-allowed-requires c = rw (c.blocks-blocks.ensures, c.node-node.ensures) (record { nodes = nodes_in c.args.table.plan.numbers.now; few = c.args.table.plan.drawn.few_blocks; leads = node-leads _ _ c.args.table.plan.drawn c.args.n c.requires; roomy = c.args.table.roomy })

pub returns : goal.returns
returns c = marked-passing c.args.table.plan.drawn (lent_as c.args.table.table) c.args.n c.blocks-blocks.ensures c.row_fits-fits.ensures c.requires c.args.table.roomy c.node-node.ensures _ c.row_after.ensures c.if-ages-n-eq0.false c.targets_allow-allowed.ensures
