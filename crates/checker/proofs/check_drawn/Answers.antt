use Rattle.tables.specs.AsTable.{lent_as}
use Rattle.checker.proofs.Answering.{short-answer, long-answer}
use Rattle.checker.proofs.check_drawn.Goals as goal

pub returns-then-short : goal.returns-then-short
returns-then-short c =
    short-answer c.args.plan.drawn (lent_as c.args.table) c.nodes-nodes.ensures c.blocks-blocks.ensures c.if-short.true

pub returns : goal.returns
returns c =
    long-answer c.args.plan.drawn (lent_as c.args.table) c.nodes-nodes.ensures c.blocks-blocks.ensures c.if-short.false c.table_passing.ensures
