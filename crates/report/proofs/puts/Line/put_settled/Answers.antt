use Rattle.report.proofs.Parts.{settled-put}
use Rattle.report.proofs.puts.Line.put_settled.Goals as goal

pub returns : goal.returns
returns c = let a = c.args in
    settled-put a.nodes a.blocks a.passes a.classes.now c.put_named.ensures c.put_named-2.ensures c.put_named-3.ensures c.put_byte.ensures c.put_nodes.ensures
