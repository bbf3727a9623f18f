use Rattle.report.proofs.Putting.{put_then}
use Rattle.report.proofs.puts.Line.put_named.Goals as goal

pub returns : goal.returns
returns c = put_then c.put_word.ensures c.put_decimal.ensures
