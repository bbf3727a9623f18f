use borrow.Author.Rules.{rules}
use Prim.Native.Nat.{ℕ, ◌-◌, ◌*◌, ◌≤◌}
use mathlib.Core.Bool.{cond}
use mathlib.Core.List.{List}
use mathlib.Core.Path.{ap, ◌∙◌}
use native.Mathlib.Nat.{mul-le-mul}
use native.Mathlib.Omega.{arith}
use lib.ListN.{get_or}
use Rattle.lists.proofs.Joined.{get_or-written}
use Rattle.lists.proofs.Listed.{length-list_of}
use Rattle.chart.specs.Geometry.{most_blocks}
use Rattle.facts.specs.Facts.{ruled_out, openings}
use Rattle.plan.specs.Listed.{nodes_in}
use Rattle.totals.proofs.Charged.{charged-few}
use Rattle.certificate.proofs.Claimed.{charged-same}
use Rattle.certificate.proofs.loading.loads_of.Goals as goal

pub charge-requires : goal.charge-requires
charge-requires c = (c.requires.hit_le_miss, charged-few c.args.plan.numbers.now c.args.classes.now c.write_openings.new.out c.charged_blocks-blocks.result c.charged_blocks-blocks.ensures c.args.plan.drawn.few_blocks)

pub returns-clause-value : goal.returns-clause-value
returns-clause-value c = let opening_of : ℕ → ℕ = λ n. cond (ruled_out c.args.nodes ((record { coefficients = c.args.coefficients.now; limits = c.args.limits.now })) n) 0 1 in
    let a = c.args in
    let w = c.write_openings in
    let few = charged-few a.plan.numbers.now a.classes.now w.new.out c.charged_blocks-blocks.result c.charged_blocks-blocks.ensures c.args.plan.drawn.few_blocks in
    let less : a.tariff.miss - a.tariff.hit ≤ 65535 = omega (arith, (let the-cost-fits : c.args.tariff.miss ≤ 65535 = search rules in the-cost-fits)) in
    let same = charged-same a.plan.numbers.now a.classes.now w.new.out (openings (nodes_in a.plan.numbers.now) ((record { coefficients = c.args.coefficients.now; limits = c.args.limits.now })))
    (λ n h. ap (λ (l : List ℕ). get_or l n 0) w.ensures ∙ get_or-written (openings a.nodes ((record { coefficients = c.args.coefficients.now; limits = c.args.limits.now }))) _ n 0 (omega (arith, length-list_of a.nodes opening_of, c.requires.nodes_value.0)) ∙ ap (λ (k : ℕ). get_or (openings k ((record { coefficients = c.args.coefficients.now; limits = c.args.limits.now }))) n 0) c.requires.nodes_value.0) in c.charge.ensures ∙ ap (λ (k : ℕ). (a.tariff.miss - a.tariff.hit) * k) (c.charged_blocks-blocks.ensures ∙ same)

pub returns-clause-upper_bound : goal.returns-clause-upper_bound
returns-clause-upper_bound c = let opening_of : ℕ → ℕ = λ n. cond (ruled_out c.args.nodes ((record { coefficients = c.args.coefficients.now; limits = c.args.limits.now })) n) 0 1 in
    let a = c.args in
    let w = c.write_openings in
    let few = charged-few a.plan.numbers.now a.classes.now w.new.out c.charged_blocks-blocks.result c.charged_blocks-blocks.ensures c.args.plan.drawn.few_blocks in
    let less : a.tariff.miss - a.tariff.hit ≤ 65535 = omega (arith, (let the-cost-fits : c.args.tariff.miss ≤ 65535 = search rules in the-cost-fits)) in
    let same = charged-same a.plan.numbers.now a.classes.now w.new.out (openings (nodes_in a.plan.numbers.now) ((record { coefficients = c.args.coefficients.now; limits = c.args.limits.now })))
    (λ n h. ap (λ (l : List ℕ). get_or l n 0) w.ensures ∙ get_or-written (openings a.nodes ((record { coefficients = c.args.coefficients.now; limits = c.args.limits.now }))) _ n 0 (omega (arith, length-list_of a.nodes opening_of, c.requires.nodes_value.0)) ∙ ap (λ (k : ℕ). get_or (openings k ((record { coefficients = c.args.coefficients.now; limits = c.args.limits.now }))) n 0) c.requires.nodes_value.0) in omega (arith, c.charge.ensures, mul-le-mul {n₂ = 65535} {m₂ = most_blocks} less few)
