use borrow.Author.Rules.{rules}
use Rattle.report.specs.Report.{node_line}
use Rattle.report.specs.Written.{most_node}
use Rattle.report.proofs.Parts.{lines-turn}
use Rattle.report.proofs.puts.Line.put_nodes.Goals as goal

pub loop-n-preserved : goal.loop-n-preserved
loop-n-preserved c = let l = c.loop-n in
    let a = c.args in
    (search rules, lines-turn most_node l.n (node_line a.classes.now) l.invariant.1 c.put_node.ensures)
