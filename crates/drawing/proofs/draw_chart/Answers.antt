use mathlib.Core.Path.{ap, ◌∙◌}
use native.Mathlib.Omega.{arith}
use lib.ListN.{length, get_or, replicate}
use Rattle.lists.proofs.Loops.{length-patch}
use Rattle.chart.specs.Geometry.{most_blocks, set_of}
use Rattle.chart.proofs.Answers.{found-nodes, found-entry, found-length, found-blocks, found-array, found-ascending, found-ends}
use Rattle.drawing.proofs.Planning.{found-narrow, chart-draws}
use Rattle.drawing.proofs.draw_chart.Goals as goal

pub sets_of-sets-requires : goal.sets_of-sets-requires
sets_of-sets-requires c = let found = c.requires.accepted_as in
    (found-blocks found, found-array found)

pub put_columns-requires-clause-count_le_most_blocks : goal.put_columns-requires-clause-count_le_most_blocks
put_columns-requires-clause-count_le_most_blocks c = let a = c.args in
    let found = c.requires.accepted_as in
    let long = ap length c.sets_of-sets.ensures ∙ length-patch (replicate most_blocks 0) 0 a.count (λ k. set_of a.header.geometry (get_or a.blocks.now k 0)) in (found-blocks found, omega (arith, long, found-blocks found))

pub put_head-requires-clause-nodes_le_most_nodes : goal.put_head-requires-clause-nodes_le_most_nodes
put_head-requires-clause-nodes_le_most_nodes c = let found = c.requires.accepted_as in (found-nodes found, (found-entry found, found-blocks found))

pub draw_nodes-requires-clause-chart_len : goal.draw_nodes-requires-clause-chart_len
draw_nodes-requires-clause-chart_len c = let found = c.requires.accepted_as in (found-length found, omega (arith, found-nodes found, c.put_head.auto, c.requires.most_blocks_in_bounds.1))

pub draw_nodes-requires-clause-count_le_most_blocks : goal.draw_nodes-requires-clause-count_le_most_blocks
draw_nodes-requires-clause-count_le_most_blocks c = let found = c.requires.accepted_as in (found-blocks found, found-array found)

pub draw_nodes-requires-clause-ascending : goal.draw_nodes-requires-clause-ascending
draw_nodes-requires-clause-ascending c = let found = c.requires.accepted_as in found-ascending found

pub draw_nodes-requires-clause-all_end : goal.draw_nodes-requires-clause-all_end
draw_nodes-requires-clause-all_end c = let found = c.requires.accepted_as in found-ends found

pub draw_nodes-requires-clause-all_narrow : goal.draw_nodes-requires-clause-all_narrow
draw_nodes-requires-clause-all_narrow c = let found = c.requires.accepted_as in found-narrow found

pub returns : goal.returns
returns c = let a = c.args in
    let drawn = c.draw_nodes in
    let headed = c.put_head in
    let columns = c.put_columns in
    chart-draws a.chart.now a.header a.count a.blocks.now c.requires.accepted_as _ _ a.plan.now _ _ c.sets_of-sets.ensures columns.ensures (omega (arith, c.requires.most_blocks_in_bounds.1)) headed.ensures drawn.ensures
    (omega (arith, columns.auto, c.requires.most_blocks_in_bounds.0)) (omega (arith, drawn.auto, headed.auto, c.requires.most_blocks_in_bounds.1))
