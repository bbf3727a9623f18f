use Prim.Native.Nat.{◌*◌, ◌-◌, ◌≤◌}
use Rattle.lists.specs.Lists.{list_of, joined}
use Rattle.report.specs.Report.{node_line}
use Rattle.report.specs.Written.{most_node, Put}
use Rattle.report.proofs.puts.Line.put_nodes.Given as goal

abbrev pub invariant-loop-n : goal.invariant-loop-n
invariant-loop-n l = (l.n ≤ l.nodes) × Put (most_node * l.n) l.initial.self (joined (list_of l.n (node_line l.classes))) l.self

abbrev pub decreases-loop-n : goal.decreases-loop-n
decreases-loop-n l = l.nodes - l.n
