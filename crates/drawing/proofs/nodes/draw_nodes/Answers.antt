use borrow.Author.Rules.{rules}
use Prim.Native.Nat.{ℕ, ◌+◌, ◌≤◌}
use mathlib.Core.List.{List}
use native.Mathlib.Omega.{arith}
use lib.ListN.{length, take}
use Rattle.chart.specs.Chart.{node_at}
use Rattle.plan.specs.Listed.{node_place}
use Rattle.drawing.specs.Nodes.{node_by}
use Rattle.drawing.proofs.Storing.{nodes-turn, node-planned, node-narrow}
use Rattle.drawing.proofs.nodes.draw_nodes.Goals as goal
use Rattle.chart.specs.declared.records.Node.{Node}
use Rattle.plan.specs.declared.ColumnTouches.{ColumnTouches}

pub loop-n-preserved : goal.loop-n-preserved
loop-n-preserved c = let a = c.args in
    let l = c.loop-n in
    let blocks : List ℕ = take a.count a.blocks.now in
    let node = c.node_at-node in
    let planned = c.planned_of-planned in
    let node-drawn : Node ColumnTouches = record { what = planned.result; targets = node.result.targets } in
    let room : node_place l.n + 3 ≤ length l.plan = omega (arith, c.loop-n-test.true, c.requires.chart_len.1, l.invariant.1.0) in
    let narrow = node-narrow a.header.geometry blocks a.chart.now l.n node.result planned.result node.ensures planned.ensures (c.requires.all_narrow l.n c.loop-n-test.true) in
    (search rules, (search rules, nodes-turn l.n node-drawn l.plan _ narrow room c.put_node.ensures (λ m. node_by a.header.geometry blocks (node_at a.chart.now m)) a.plan.now l.invariant.1.1 (node-planned a.header.geometry blocks a.chart.now l.n node.result planned.result node.ensures planned.ensures)))
