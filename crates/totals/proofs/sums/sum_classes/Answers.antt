use borrow.Author.Rules.{rules}
use Prim.Native.Nat.{ℕ, ◌+◌, ◌*◌, ◌≤◌}
use mathlib.Core.Path.{ap, subst, sym, ◌∙◌}
use native.Mathlib.Omega.{arith}
use lib.ListN.{get_or}
use Rattle.chart.specs.Geometry.{most_touches}
use Rattle.costs.specs.Costs.{Costs}
use Rattle.totals.specs.declared.Totals.{Totals}
use Rattle.totals.specs.Inner.{costs_of, figures_of, Small, touch_added}
use Rattle.totals.proofs.Summing.{small-more, small-turn, sums-turn}
use Rattle.totals.proofs.sums.sum_classes.Goals as goal

pub loop-n-preserved : goal.loop-n-preserved
loop-n-preserved c =
    let a = c.args in
    let l = c.loop-n in
    let costs : Costs = costs_of a.tariff in
    let first : ℕ = get_or a.classes.now (most_touches * l.n) 0 in
    let second : ℕ = get_or a.classes.now (most_touches * l.n + 1) 0 in
    let floor : ℕ = get_or a.floors.now l.n 0 in
    let ceiling : ℕ = get_or a.ceilings.now l.n 0 in
    let hit_small : costs.hit ≤ 65535 = search rules in
    let miss_small : costs.miss ≤ 65535 = search rules in
    let floor_small : floor ≤ 65535 = omega (arith, c.type_inv.floors l.n) in
    let ceiling_small : ceiling ≤ 65535 = omega (arith, c.type_inv.ceilings l.n) in
    let once = c.add_touch-once in
    let small_once : Small (most_touches * l.n + 1) once.result =
    subst (Small (most_touches * l.n + 1)) (sym once.ensures)
    (small-turn costs hit_small miss_small first floor ceiling floor_small ceiling_small (most_touches * l.n) l.sums l.invariant.1.0)
    in
    let small : Small (most_touches * l.n + 1 + 1) c.add_touch-sums.result =
    subst (Small (most_touches * l.n + 1 + 1)) (sym c.add_touch-sums.ensures)
    (small-turn costs hit_small miss_small second floor ceiling floor_small ceiling_small (most_touches * l.n + 1) once.result small_once)
    in (
      search rules,
      (
        small-more (most_touches * l.n + 1 + 1) (most_touches * (l.n + 1)) c.add_touch-sums.result (omega arith) small,
        c.add_touch-sums.ensures
            ∙ ap (λ (sums : Totals). touch_added costs second floor ceiling sums) once.ensures
            ∙ sums-turn a.classes.now (figures_of a.tariff a.floors.now a.ceilings.now) l.n l.sums l.invariant.1.1,
      ),
    )
