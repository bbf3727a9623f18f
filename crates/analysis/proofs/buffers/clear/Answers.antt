use Rattle.analysis.specs.Inner.{sized}
use Rattle.analysis.proofs.Starting.{cleared-blank}
use Rattle.analysis.proofs.buffers.clear.Goals as goal

pub returns : goal.returns
returns c = let a = c.args in
    rw (c.fill.ensures, c.fill-2.ensures, c.fill-3.ensures, c.nodes_in-nodes.ensures, c.blocks_in.ensures)
    (cleared-blank (sized a.plan.now) (record { must = a.must.now; may = a.may.now; marks = a.marks.now }) c.requires.room_for)
