use Rattle.analysis.proofs.Starting.{start-before}
use Rattle.analysis.proofs.buffers.start_table.Goals as goal

pub returns : goal.returns
returns c = let start = c.start-start in
    let entry = c.entry-entry in
    let blocks = c.blocks-blocks in
    let empty = c.starts_empty-empty in
    start-before c.args.plan.columns.now c.args.plan.numbers.now c.args.plan.drawn
    (record { must = c.args.must.now; may = c.args.may.now; marks = c.args.marks.now })
    blocks.result entry.result blocks.ensures entry.ensures empty.result empty.ensures start.result start.ensures
    _ c.clear.ensures _ c.meet_row.ensures
