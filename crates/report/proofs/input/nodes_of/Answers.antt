use borrow.Author.Rules.{rules}
use Rattle.report.proofs.Inputs.{nodes-read}
use Rattle.report.proofs.input.nodes_of.Goals as goal

pub returns : goal.returns
returns c = nodes-read c.args.chart.now _ _ c.read_header.ensures.value c.map_or.ensures (λ header told. search rules) (λ refusal told. told)
