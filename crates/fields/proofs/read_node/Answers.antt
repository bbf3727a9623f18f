use Rattle.std.specs.Prelude.{Ok, Err, Some, None}
use Rattle.std.proofs.Common.{rules}
use mathlib.Core.Path.{ap, ◌∙◌, ◌≡◌}
use native.Mathlib.Omega.{arith}
use Rattle.chart.proofs.Answers.{reader-accepts, reader-refuses, found-length}
use Rattle.fields.specs.Fields.{node_read, node_says}
use Rattle.fields.proofs.Answered.{node-refused, node-there, node-none}
use Rattle.fields.proofs.read_node.Goals as goal

pub returns-in_err-accepted : goal.returns-in_err-accepted
returns-in_err-accepted c =
    let r = c.read in
    let given : c.from_residual.result ≡ Err c.in_err-accepted.field-0.0 = search rules in
    let e : c.from_residual.result ≡ node_read c.args.chart.now c.args.n =
    given ∙ node-refused c.args.chart.now _ (reader-refuses c.args.chart.now r.result r.ensures.value _ c.in_err-accepted.was) c.args.n
    in
    record { value = e; result_value = ap node_says e }

pub fields_at-requires : goal.fields_at-requires
fields_at-requires c =
    let r = c.read in
    let long = found-length (reader-accepts c.args.chart.now r.result r.ensures.value _ c.in_ok-accepted.was) in
    omega (arith, long)

pub returns-then-nodes-n : goal.returns-then-nodes-n
returns-then-nodes-n c =
    let r = c.read in
    let e : Ok None ≡ node_read c.args.chart.now c.args.n =
    node-none c.args.chart.now _ _ _ (reader-accepts c.args.chart.now r.result r.ensures.value _ c.in_ok-accepted.was) c.args.n c.if-nodes-n.true
    in
    record { value = e; result_value = ap node_says e }

pub returns : goal.returns
returns c =
    let r = c.read in
    let e : Ok (Some c.fields_at.result) ≡ node_read c.args.chart.now c.args.n =
    (λ i. Ok (Some (c.fields_at.ensures i)))
    ∙ node-there c.args.chart.now _ _ _ (reader-accepts c.args.chart.now r.result r.ensures.value _ c.in_ok-accepted.was) c.args.n c.if-nodes-n.false
    in
    record { value = e; result_value = ap node_says e }
