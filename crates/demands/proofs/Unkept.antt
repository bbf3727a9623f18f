-- Where all touches on a walk are called hits or misses and the visits are known, nothing is charged for kept touches.
use Prim.Native.Nat.{ℕ, ◌-◌, ◌*◌, ◌≤◌, ◌<◌}
use mathlib.Core.Bool.{Bool, true, false, cond, ◌&&◌, true≢false}
use mathlib.Core.List.{List, ◌∷◌}
use mathlib.Core.Path.{◌≡◌, refl, sym, ap, ◌∙◌}
use native.Mathlib.Nat.{mul-zero}
use native.Mathlib.Omega.{arith}
use borrow.Author.Tests.{ltb-true}
use lib.Dec.{ltb}
use lib.ListN.{get_or}
use Rattle.lists.specs.Lists.{sum_of}
use Rattle.lists.proofs.Choice.{and-true}
use Rattle.lists.proofs.Loops.{none_any}
use Rattle.lists.proofs.Sums.{sum-most}
use Rattle.chart.specs.Chart.{Chart, touches, block_count}
use Rattle.flow.specs.Flow.{cell_at}
use Rattle.flow.specs.Walk.{visits_of}
use Rattle.flow.proofs.Walking.{visits_of-zero, at-nodes-both}
use Rattle.ages.specs.Plan.{touches_in}
use Rattle.ages.specs.Charted.{plan_of}
use Rattle.machine.specs.Machine.{plain_machine, Contents}
use Rattle.costs.specs.Costs.{Figures, classes_at, keeps_at, charged_for, kept_charge}
use Rattle.tables.specs.Lent.{Lent, ages_at, table_of}
use Rattle.demands.specs.Demand3.{Sure, AtEachNode}
use Rattle.demands.specs.Inner.{Arrives}
use Rattle.demands.proofs.Keeping.{told_none}

module _ (chart : Chart) (table : Lent) (ts : List ℕ) (cache : Contents chart) (figures : Figures)
    (arriving : AtEachNode chart (Arrives chart table) ts cache) (sure : AtEachNode chart (Sure chart table) ts cache)
    (no_less : (n : ℕ) → n < chart.header.nodes → get_or figures.ceilings n 0 ≤ visits_of n (chart.header.entry ∷ ts)) where
  -- What is known at each node of the walk.
  abbrev Both : ℕ → Contents chart → Type 0
  Both n c = Arrives chart table n c × Sure chart table n c

  both : AtEachNode chart Both ts cache
  both =
      at-nodes-both (plain_machine chart) (touches chart) (Arrives chart table) (Sure chart table) Both (λ n c a s. (a, s)) chart.header.entry ts cache arriving sure

  -- A node at which a touch is called kept is none of these, and so has no ceiling.
  no_node : (column n : ℕ) → n < chart.header.nodes → (ltb 0 (get_or figures.ceilings n 0) && keeps_at (plan_of chart) column n (cell_at (table_of (plan_of chart) table) n)) ≡ false
  no_node column n h = go (ltb 0 (get_or figures.ceilings n 0) && keeps_at (plan_of chart) column n (cell_at (table_of (plan_of chart) table) n)) refl
    where
      go : (t : Bool) → (ltb 0 (get_or figures.ceilings n 0) && keeps_at (plan_of chart) column n (cell_at (table_of (plan_of chart) table) n)) ≡ t → t ≡ false
      go false e = refl
      go true e =
          let is = and-true (ltb 0 (get_or figures.ceilings n 0)) (keeps_at (plan_of chart) column n (cell_at (table_of (plan_of chart) table) n)) e in
          let never : (c : Contents chart) → Both n c → ⊥ = λ c b.
          true≢false (sym is.1 ∙ ap (keeps_at (plan_of chart) column n) b.0.marked ∙ told_none column (touches_in (plan_of chart) n) (classes_at (plan_of chart) n (ages_at (plan_of chart) table n)) b.1) in
          absurd (omega (arith, ltb-true 0 (get_or figures.ceilings n 0) is.0, no_less n h, visits_of-zero (plain_machine chart) (touches chart) Both n never chart.header.entry ts cache both))

  none-charged : (column : ℕ) → charged_for (plan_of chart) (table_of (plan_of chart) table) figures.ceilings column ≡ false
  none-charged column =
      none_any chart.header.nodes (λ n. ltb 0 (get_or figures.ceilings n 0) && keeps_at (plan_of chart) column n (cell_at (table_of (plan_of chart) table) n)) (no_node column)

  pub charge-none : kept_charge (plan_of chart) (table_of (plan_of chart) table) figures ≡ 0
  unfolding kept_charge
  charge-none =
      let none : sum_of (block_count chart) (λ column. cond (charged_for (plan_of chart) (table_of (plan_of chart) table) figures.ceilings column) 1 0) ≡ 0
      = omega (arith, sum-most (block_count chart) 0 (λ column. cond (charged_for (plan_of chart) (table_of (plan_of chart) table) figures.ceilings column) 1 0) (λ column h. rw (none-charged column) (omega arith))) in
      ap (λ (k : ℕ). (figures.costs.miss - figures.costs.hit) * k) none ∙ mul-zero (figures.costs.miss - figures.costs.hit)
