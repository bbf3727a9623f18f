use Rattle.report.proofs.Putting.{put_then}
use Rattle.report.proofs.puts.Line.put_node.Goals as goal

pub returns : goal.returns
returns c = put_then (put_then (put_then c.put_decimal.ensures c.put_spaced.ensures) c.put_spaced-2.ensures) c.put_byte.ensures
