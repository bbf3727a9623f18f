use Rattle.report.proofs.Parts.{refused-put}
use Rattle.report.proofs.puts.Line.put_refused.Goals as goal

pub returns : goal.returns
returns c = refused-put c.args.refusal c.number.result c.place.result c.number.ensures c.place.ensures c.put_named.ensures c.put_named-2.ensures c.put_byte.ensures
