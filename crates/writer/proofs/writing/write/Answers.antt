use Rattle.std.specs.Prelude.{Err}
use Rattle.std.proofs.Common.{rules}
use mathlib.Core.Path.{ap, ◌≡◌, ◌∙◌}
use Rattle.writer.specs.Writer.{WriteLeft, wrote_says}
use Rattle.writer.specs.Contract.{lent_lists}
use Rattle.writer.proofs.Headed.{header_refused, header-long, header-rest}
use Rattle.writer.proofs.writing.write.Goals as goal

pub write_nodes-requires-clause-all_long : goal.write_nodes-requires-clause-all_long
write_nodes-requires-clause-all_long c =
    let lists = lent_lists c.args.kinds c.args.addresses c.args.sizes c.args.outs c.args.firsts c.args.seconds in
    let fields = c.header_given in
    let long = c.all_long in
    let answer = c.header_of in
    header-long c.args.heading lists fields.result long.result answer.result fields.ensures long.ensures answer.ensures _ c.in_ok-header.was

pub returns-in_err-header : goal.returns-in_err-header
returns-in_err-header c =
    let lists = lent_lists c.args.kinds c.args.addresses c.args.sizes c.args.outs c.args.firsts c.args.seconds in
    let fields = c.header_given in
    let long = c.all_long in
    let answer = c.header_of in
    let given : c.from_residual.result ≡ Err c.in_err-header.field-0.0 = search rules in
    let refused =
    ap (λ answer. record { answer = answer; chart = c.args.chart.now }) given
    ∙ header_refused c.args.heading lists fields.result long.result answer.result fields.ensures long.ensures answer.ensures c.args.chart.now _ c.in_err-header.was
    in
    record { result_value = refused; result_value_2 = ap (λ (left : WriteLeft). wrote_says left.answer) refused }

pub returns : goal.returns
returns c =
    let lists = lent_lists c.args.kinds c.args.addresses c.args.sizes c.args.outs c.args.firsts c.args.seconds in
    let fields = c.header_given in
    let long = c.all_long in
    let answer = c.header_of in
    let whole =
    header-rest c.args.heading lists fields.result long.result answer.result fields.ensures long.ensures answer.ensures _ c.in_ok-header.was c.args.chart.now _ c.write_nodes.ensures
    in
    record { result_value = whole; result_value_2 = ap (λ (left : WriteLeft). wrote_says left.answer) whole }
