use borrow.Author.Rules.{rules}
use Prim.Native.Nat.{ℕ, ◌+◌, ◌*◌, ◌≤◌, ◌-◌}
use mathlib.Core.Path.{ap, ◌∙◌}
use native.Mathlib.Nat.{mul-le-mul}
use native.Mathlib.Omega.{arith}
use Rattle.chart.specs.Geometry.{most_blocks}
use Rattle.costs.specs.Costs.{Figures}
use Rattle.tables.specs.AsTable.{lent_as}
use Rattle.totals.specs.declared.Totals.{Totals}
use Rattle.totals.specs.Inner.{figures_of, sums_to}
use Rattle.totals.proofs.Summing.{low-is}
use Rattle.totals.proofs.Charged.{charged-few, high-total-is}
use Rattle.totals.proofs.sums.sum_nodes.Goals as goal

pub charge-once-requires : goal.charge-once-requires
charge-once-requires c = (c.requires.hit_le_miss, charged-few c.args.table.plan.numbers.now c.write_classes.new.classes c.args.ceilings.now c.charged_blocks-blocks.result c.charged_blocks-blocks.ensures c.args.table.plan.drawn.few_blocks)

pub overflow_add-result : goal.overflow_add-result
overflow_add-result c = let small = c.sum_classes-sums.ensures.small.high_most in
    let most : c.args.tariff.miss ≤ 65535 = search rules in
    let less : c.args.tariff.miss - c.args.tariff.hit ≤ 65535 = omega arith in
    let blocks : c.charged_blocks-blocks.result ≤ most_blocks = charged-few c.args.table.plan.numbers.now c.write_classes.new.classes c.args.ceilings.now c.charged_blocks-blocks.result c.charged_blocks-blocks.ensures c.args.table.plan.drawn.few_blocks in
    omega (arith, small, c.nodes-nodes.ensures, c.args.table.plan.drawn.few_nodes, c.charge-once.ensures, mul-le-mul {n₂ = 65535} {m₂ = most_blocks} less blocks)

pub returns : goal.returns
returns c = let a = c.args in
    let classes = c.write_classes in
    let nodes = c.nodes-nodes.ensures in
    let figures : Figures = figures_of a.tariff a.floors.now a.ceilings.now in
    let sums = c.sum_classes-sums.ensures.value in
    let low = ap (λ (t : Totals). t.low) sums ∙ ap (λ (n : ℕ). (sums_to classes.new.classes figures n).low) nodes ∙ low-is a.table.plan.columns.now a.table.plan.numbers.now (lent_as a.table.table) classes.new.classes _ classes.ensures figures in
    let high = ap (λ (t : Totals). t.high) sums ∙ ap (λ (n : ℕ). (sums_to classes.new.classes figures n).high) nodes in
    let once = c.charge-once.ensures ∙ ap (λ (k : ℕ). (a.tariff.miss - a.tariff.hit) * k) c.charged_blocks-blocks.ensures in
    let all = (λ i. high i + once i) ∙ high-total-is a.table.plan.columns.now a.table.plan.numbers.now (lent_as a.table.table) classes.new.classes _ classes.ensures figures in
    λ i. record { low = low i; high = all i }
