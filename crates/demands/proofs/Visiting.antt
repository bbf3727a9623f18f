-- What a walk costs by its own visits: its visits are floors and ceilings that it keeps to, so that demand 3's bounds hold with them. And what is
-- charged for kept touches at nodes that it visits is charged where facts that it keeps leave those nodes open.
use Prim.Native.Nat.{ℕ, ◌+◌, ◌-◌, ◌*◌, ◌≤◌, ◌<◌}
use mathlib.Core.Bool.{Bool, true, false, cond, not, ◌&&◌}
use mathlib.Core.List.{List, [], ◌∷◌}
use mathlib.Core.Path.{◌≡◌, refl, sym, ap, ◌∙◌}
use native.Mathlib.Nat.{mul-le-mul_left}
use native.Mathlib.Omega.{arith}
use borrow.Author.Tests.{ltb-true}
use lib.Dec.{eqb, ltb}
use lib.ListN.{get_or}
use Rattle.lists.specs.Lists.{list_of, sum_of}
use Rattle.lists.proofs.Choice.{and-true, true-and}
use Rattle.lists.proofs.Listed.{get_or-list_of}
use Rattle.lists.proofs.Loops.{any_some, some-any}
use Rattle.lists.proofs.Sums.{sum-equal, sum-monotone}
use Rattle.chart.specs.Chart.{Chart, touches}
use Rattle.cache.specs.Ages.{Ages}
use Rattle.flow.specs.Flow.{Cell, cell_at}
use Rattle.flow.specs.Walk.{visits_of, in_turn, AtNodes}
use Rattle.flow.proofs.Walking.{at-nodes}
use Rattle.facts.specs.declared.Side.{Side}
use Rattle.facts.specs.Facts.{Facts, KeepsFacts, ruled_out, openings}
use Rattle.facts.proofs.Bounding.{AllMarked, ruled_out-zero}
use Rattle.ages.specs.Plan.{Plan}
use Rattle.ages.specs.Charted.{plan_of}
use Rattle.machine.specs.Machine.{plain_machine, Contents, cost_of}
use Rattle.machine.specs.Keeping.{touch_whole}
use Rattle.costs.specs.Costs.{Costs, Figures, high_rate, low_rate, visit_cost, total_by, classes_at, keeps_at, charged_for, kept_charge}
use Rattle.costs.proofs.Spending.{low_below, high-above}
use Rattle.tables.specs.Lent.{Lent, table_of, TablePasses}
use Rattle.tables.proofs.Laid.{table_of-at}
use Rattle.checker.specs.Checker.{marked}
use Rattle.certificate.specs.Bound.{course_of}
use Rattle.demands.specs.Demand3.{OnWalk, whole_in, AtEachNode}
use Rattle.demands.specs.Inner.{touch_class, RightHere, Arrives}
use Rattle.demands.proofs.Demand3.{passing-once}
use Rattle.demands.proofs.Keeping.{charge-above}
use Rattle.demands.proofs.Truth.{walk-arrives, arrived_right}

module _ (bytes : List ℕ) (chart : Chart) (table : Lent) (contents : Contents chart) (ts : List ℕ) (on : OnWalk bytes chart contents ts)
    (passing : TablePasses (plan_of chart) table) (costs : Costs) where
  abbrev plan : Plan
  plan = plan_of chart

  abbrev nodes : ℕ
  nodes = chart.header.nodes

  abbrev entry : ℕ
  entry = chart.header.entry

  abbrev cells : List (Cell Ages)
  cells = table_of plan table

  abbrev visits : ℕ → ℕ
  visits n = visits_of n (entry ∷ ts)

  -- Floors and ceilings: just the visits.
  abbrev pub as_figures : Figures
  as_figures = record { costs = costs; floors = list_of nodes visits; ceilings = list_of nodes visits }

  listed : (n : ℕ) → n < nodes → get_or (list_of nodes visits) n 0 ≡ visits n
  listed n h = get_or-list_of nodes visits 0 n h

  arriving : AtEachNode chart (Arrives chart table) ts contents
  arriving = walk-arrives bytes chart on.read table passing.equations ts contents on.begins on.walk

  -- ---- its nodes are marked

  arrived-marked : (n : ℕ) (c : Contents chart) → Arrives chart table n c → marked table n ≡ true
  arrived-marked n c arrived = go (eqb (get_or table.marks n 0) 0) refl
    where
      go : (t : Bool) → eqb (get_or table.marks n 0) 0 ≡ t → not t ≡ true
      go false e = refl
      go true e =
          let cell = sym (table_of-at plan table n arrived.inside) ∙ arrived.marked in
          let blank-is = (rw e at cell) in
          let z : ◌≡◌ {A = ℕ} 0 1 = cc in
          absurd (omega arith)

  all-marked : (side : Side) (n : ℕ) (ks : List ℕ) (c : Contents chart)
      → AtNodes (plain_machine chart) (Arrives chart table) (touches chart) n ks c
      → AllMarked (course_of plan table side costs) (n ∷ ks)
  all-marked side n [] c at = ((at.inside, arrived-marked n c at), tt)
  all-marked side n (k ∷ ks) c at =
      ((at.0.inside, arrived-marked n c at.0), all-marked side k ks (in_turn (plain_machine chart).act (touches chart n) c) at.1)

  pub walk-marked : (side : Side) → AllMarked (course_of plan table side costs) (entry ∷ ts)
  walk-marked side = all-marked side entry ts contents arriving

  -- ---- costs

  -- What its visits count at a rate.
  abbrev pub counted_at : (ℕ → ℕ) → ℕ
  counted_at rate = sum_of nodes (λ n. visits n * visit_cost (classes_at plan n) rate (cell_at cells n))

  counted : (rate : ℕ → ℕ) → total_by nodes (classes_at plan) cells rate (list_of nodes visits) ≡ counted_at rate
  unfolding total_by
  counted rate = sum-equal nodes _ _ (λ n h. ap (λ (k : ℕ). k * visit_cost (classes_at plan n) rate (cell_at cells n)) (listed n h))

  right : AtEachNode chart (RightHere chart table) ts contents
  right =
      at-nodes (plain_machine chart) (touches chart) (Arrives chart table) (RightHere chart table)
      (arrived_right bytes chart on.read table passing.equations) entry ts contents arriving

  module _ (fair : costs.hit ≤ costs.miss) where
    pub visits-below : counted_at (low_rate costs) ≤ cost_of chart costs.hit costs.miss ts contents
    visits-below =
        let least = low_below (plain_machine chart) (touch_class chart) (touch_whole chart) (touches chart) nodes (classes_at plan) (whole_in chart table)
        cells as_figures fair entry ts contents right (λ n h. omega (arith, listed n h)) in
        omega (arith, counted (low_rate costs))

    pub visits-above : cost_of chart costs.hit costs.miss ts contents ≤ counted_at (high_rate costs) + kept_charge plan cells as_figures
    visits-above =
        let within : (n : ℕ) → n < nodes → visits n ≤ get_or (list_of nodes visits) n 0 = λ n h. omega (arith, listed n h) in
        let most = high-above (plain_machine chart) (touch_class chart) (touch_whole chart) (touches chart) nodes (classes_at plan) (whole_in chart table)
        cells as_figures fair entry ts contents right within in
        let beyond = charge-above bytes chart on.read table ts contents arriving (passing-once bytes chart table contents ts on passing) as_figures within in
        omega (arith, counted (high_rate costs))

  -- ---- what is charged for kept touches

  module _ (facts : Facts) (keeps : KeepsFacts nodes facts visits) where
    abbrev opened : Figures
    opened = record { costs = costs; floors = []; ceilings = openings nodes facts }

    -- A node that is visited is not ruled out.
    visited-open : (n : ℕ) → n < nodes → ltb 0 (get_or as_figures.ceilings n 0) ≡ true → ltb 0 (get_or opened.ceilings n 0) ≡ true
    visited-open n h e = ap (ltb 0) (get_or-list_of nodes (λ k. cond (ruled_out nodes facts k) 0 1) 0 n h) ∙ go (ruled_out nodes facts n) refl
      where
        go : (t : Bool) → ruled_out nodes facts n ≡ t → ltb 0 (cond t 0 1) ≡ true
        go false out = refl
        go true out = absurd (omega (arith, ltb-true 0 (get_or as_figures.ceilings n 0) e, listed n h, ruled_out-zero nodes facts visits n keeps h out))

    charged-open : (block : ℕ) → charged_for plan cells as_figures.ceilings block ≡ true → charged_for plan cells opened.ceilings block ≡ true
    charged-open block e =
        let some = any_some nodes (λ n. ltb 0 (get_or as_figures.ceilings n 0) && keeps_at plan block n (cell_at cells n)) e in
        let both = and-true (ltb 0 (get_or as_figures.ceilings some.0 0)) _ some.2 in
        some-any nodes _ some.0 some.1 (true-and _ _ (visited-open some.0 some.1 both.0) both.1)

    flag-open : (block : ℕ) → cond (charged_for plan cells as_figures.ceilings block) 1 0 ≤ cond (charged_for plan cells opened.ceilings block) 1 0
    flag-open block = go (charged_for plan cells as_figures.ceilings block) refl
      where
        go : (t : Bool) → charged_for plan cells as_figures.ceilings block ≡ t → cond t 1 0 ≤ cond (charged_for plan cells opened.ceilings block) 1 0
        go true e = rw (charged-open block e) (omega arith)
        go false e = omega arith

    pub charge-open : kept_charge plan cells as_figures ≤ kept_charge plan cells opened
    unfolding kept_charge
    charge-open = mul-le-mul_left (costs.miss - costs.hit) (sum-monotone plan.blocks _ _ (λ block h. flag-open block))
