use Prim.Native.Nat.{◌≤◌, ◌-◌}
use mathlib.Core.Path.{◌≡◌}
use lib.ListN.{length, take}
use Rattle.chart.specs.Chart.{node_at}
use Rattle.drawing.specs.Nodes.{node_by, NodesDrawn}
use Rattle.drawing.proofs.nodes.draw_nodes.Given as goal

abbrev pub invariant-loop-n : goal.invariant-loop-n
invariant-loop-n l = (l.n ≤ l.nodes) × ((length l.plan ≡ length l.initial.plan) × NodesDrawn l.n (λ m. node_by l.geometry (take l.count l.blocks) (node_at l.chart m)) l.initial.plan l.plan)

abbrev pub decreases-loop-n : goal.decreases-loop-n
decreases-loop-n l = l.nodes - l.n
