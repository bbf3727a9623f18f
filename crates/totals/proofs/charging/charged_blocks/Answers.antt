use Prim.Native.Nat.{ℕ}
use mathlib.Core.List.{List}
use mathlib.Core.Path.{◌≡◌, ap, ◌∙◌}
use native.Mathlib.Omega.{arith}
use lib.ListN.{get_or}
use Rattle.lists.specs.Lists.{sum_of}
use Rattle.plan.specs.Listed.{nodes_in, blocks_in}
use Rattle.totals.specs.Charged.{charged_to}
use Rattle.totals.proofs.Charged.{record-marked, charged-sum}
use Rattle.totals.proofs.charging.charged_blocks.Goals as goal

pub charge_node-requires : goal.charge_node-requires
charge_node-requires c = let plan = c.args.plan in
    rw (c.loop-n.invariant.1.0, c.node-node.ensures) (record-marked plan.columns.now plan.numbers.now plan.drawn c.loop-n.n (omega (arith, c.nodes-nodes.ensures, c.loop-n-test.true)))

pub returns : goal.returns
returns c = let a = c.args in
    let l = c.loop-n in
    let e : l.n ≡ nodes_in a.plan.numbers.now = omega (arith, c.nodes-nodes.ensures) in
    c.sum_marks.ensures
    ∙ ap (λ (count : ℕ). sum_of count (λ column. get_or l.charged column 0)) c.blocks-blocks.ensures
    ∙ ap (λ (marks : List ℕ). sum_of (blocks_in a.plan.numbers.now) (λ column. get_or marks column 0)) (l.invariant.1.1 ∙ ap (charged_to a.plan.numbers.now a.classes.now a.ceilings.now) e)
    ∙ charged-sum a.plan.numbers.now a.classes.now a.ceilings.now (record-marked a.plan.columns.now a.plan.numbers.now a.plan.drawn) a.plan.drawn.few_blocks
