-- Demand 3: what the tool says is true of the plain machine, at each step of every walk, and what the machine pays lies between the totals.
use Rattle.std.specs.Prelude.{Ok, Err, Result}
use Prim.Native.Nat.{ℕ, ◌+◌, ◌*◌, ◌≤◌, ◌<◌}
use mathlib.Core.Bool.{true}
use mathlib.Core.List.{List, ◌++◌}
use mathlib.Core.Path.{◌≡◌, refl, sym, ap, ◌∙◌, subst}
use native.Mathlib.Omega.{arith}
use borrow.Author.Tests.{eq-eqb}
use lib.Dec.{eqb}
use lib.ListN.{get_or, length, drop}
use Rattle.lists.proofs.Joined.{get_or-written}
use Rattle.chart.specs.Chart.{Chart, accepted, read_chart, touches}
use Rattle.refusals.proofs.Numbers.{number-positive}
use Rattle.cache.specs.Ages.{Ages}
use Rattle.ages.specs.Charted.{plan_of}
use Rattle.machine.specs.Machine.{plain_machine, Contents, cost_of}
use Rattle.machine.specs.Keeping.{touch_whole}
use Rattle.machine.proofs.Keeping.{kept_once}
use Rattle.costs.specs.Costs.{Figures, classes_at, high_total}
use Rattle.flow.specs.Flow.{Cell, cell_at}
use Rattle.flow.proofs.Walking.{at-nodes, visits_of-zero, at-nodes-both}
use Rattle.tables.specs.Lent.{Lent, ages_at, table_of, TablePasses}
use Rattle.tables.proofs.Laid.{table_of-at}
use Rattle.classes.specs.Class.{node_class, table_classes, CalledRight}
use Rattle.classes.proofs.Places.{classes_long, first_listed, second_listed}
use Rattle.analysis.specs.Analysis.{Buffers, table_in, analysed, settled_after}
use Rattle.totals.specs.Totals.{totals, totals_say}
use Rattle.costs.proofs.Spending.{low_below, high-above, low-reached, high-reached}
use Rattle.demands.specs.Demand1.{FiguresFit, Summable}
use Rattle.demands.specs.Demand3.{OnWalk, VisitsWithin, whole_in, SaysTrue, ClassTrue, kept_misses, read_misses, AtEachNode, CostBetween, Demand3, VisitsKnown, Sure, CostExactly}
use Rattle.demands.specs.Inner.{touch_class, RightHere, ToldHere, Arrives}
use Rattle.demands.proofs.Checking.{checker_yes}
use Rattle.demands.proofs.Demand2.{demand2}
use Rattle.demands.proofs.Totalling.{totals-refusals}
use Rattle.demands.proofs.Keeping.{charge-above}
use Rattle.demands.proofs.Unkept.{charge-none}
use Rattle.demands.proofs.Reading.{written-misses}
use Rattle.demands.proofs.Truth.{walk-arrives, arrived-true, arrived-reached, arrived_right}
use Rattle.totals.specs.declared.Totals.{Totals}
use Rattle.refusals.specs.declared.Refusal.{Refusal}

module _ (bytes : List ℕ) (chart : Chart) (table : Lent) (cache : Contents chart) (ts : List ℕ) (on : OnWalk bytes chart cache ts) (passing : TablePasses (plan_of chart) table) where
  arriving : AtEachNode chart (Arrives chart table) ts cache
  arriving = walk-arrives bytes chart on.read table passing.equations ts cache on.begins on.walk

  -- ---- classes

  pub passing-true : AtEachNode chart (SaysTrue chart table) ts cache
  passing-true =
      at-nodes (plain_machine chart) (touches chart) (Arrives chart table) (SaysTrue chart table) (arrived-true bytes chart on.read table passing.equations) chart.header.entry ts cache arriving

  -- Of the touches of a block that are called kept, one misses at most.
  pub passing-once : (block : ℕ) → kept_misses chart table block ts cache ≤ 1
  passing-once block = kept_once bytes chart on.read (ages_at (plan_of chart) table) cache on.begins ts on.walk block

  -- ---- costs

  module _ (figures : Figures) (figures_fit : FiguresFit chart figures) (within : VisitsWithin chart figures ts) where
    -- A node that is not marked is not visited, so its floor is 0.
    unmarked-floor : (n : ℕ) → n < chart.header.nodes → eqb (get_or table.marks n 0) 0 ≡ true → get_or figures.floors n 0 ≡ 0
    unmarked-floor n h e =
        omega (arith, within.no_less n h, visits_of-zero (plain_machine chart) (touches chart) (Arrives chart table) n never chart.header.entry ts cache arriving)
      where
        never : (c : Contents chart) → Arrives chart table n c → ⊥
        never c arrived =
            let cell = sym (table_of-at (plan_of chart) table n h) ∙ arrived.marked in
            let blank-is = (rw e at cell) in
            let z : ◌≡◌ {A = ℕ} 0 1 = cc in
            omega arith

    summable : Summable chart table figures
    summable =
        record {
          passing = passing;
          figures_fit = figures_fit;
          not_crossed = λ n h. omega (arith, within.no_less n h, within.no-more n h);
          none_unmarked = λ n h z. unmarked-floor n h (eq-eqb (get_or table.marks n 0) 0 z);
        }

    right : AtEachNode chart (RightHere chart table) ts cache
    right =
        at-nodes (plain_machine chart) (touches chart) (Arrives chart table) (RightHere chart table)
        (arrived_right bytes chart on.read table passing.equations) chart.header.entry ts cache arriving

    -- The high total, with what touches called kept may cost beyond their hits.
    high_most : cost_of chart figures.costs.hit figures.costs.miss ts cache ≤ high_total (plan_of chart) (table_of (plan_of chart) table) figures
    high_most =
        let most = high-above (plain_machine chart) (touch_class chart) (touch_whole chart) (touches chart) chart.header.nodes (classes_at (plan_of chart)) (whole_in chart table) (table_of (plan_of chart) table) figures figures_fit.costs chart.header.entry ts cache right within.no-more in
        let beyond = charge-above bytes chart on.read table ts cache arriving passing-once figures within.no-more in
        omega arith

    pub passing-between : CostBetween chart figures ts cache (totals bytes table figures)
    passing-between =
        subst (CostBetween chart figures ts cache) (sym ((totals-refusals bytes chart table figures on.read).sums summable))
        record {
          given = refl;
          no_less = low_below (plain_machine chart) (touch_class chart) (touch_whole chart) (touches chart) chart.header.nodes (classes_at (plan_of chart)) (whole_in chart table) (table_of (plan_of chart) table) figures figures_fit.costs chart.header.entry ts cache right within.no_less;
          no-more = high_most;
        }

    -- Where nothing is unsure and the visits are known.
    module _ (known : VisitsKnown chart figures ts) (sure : AtEachNode chart (Sure chart table) ts cache) where
      told-right : AtEachNode chart (ToldHere chart table) ts cache
      told-right =
          at-nodes-both (plain_machine chart) (touches chart) (Arrives chart table) (Sure chart table) (ToldHere chart table)
          (λ n c arrived s. record { at = arrived_right bytes chart on.read table passing.equations n c arrived; told = s })
          chart.header.entry ts cache arriving sure

      pub passing-exactly : CostExactly chart figures ts cache (totals bytes table figures)
      passing-exactly =
          let least = low_below (plain_machine chart) (touch_class chart) (touch_whole chart) (touches chart) chart.header.nodes (classes_at (plan_of chart)) (whole_in chart table) (table_of (plan_of chart) table) figures figures_fit.costs chart.header.entry ts cache right within.no_less in
          let most = high_most in
          let low = low-reached (plain_machine chart) (touch_class chart) (touch_whole chart) (touches chart) chart.header.nodes (classes_at (plan_of chart)) (whole_in chart table) (table_of (plan_of chart) table) figures figures_fit.costs chart.header.entry ts cache told-right (λ n h. omega (arith, known.floors n h)) in
          let high = high-reached (plain_machine chart) (touch_class chart) (touch_whole chart) (touches chart) chart.header.nodes (classes_at (plan_of chart)) (whole_in chart table) (table_of (plan_of chart) table) figures figures_fit.costs chart.header.entry ts cache told-right (λ n h. omega (arith, known.ceilings n h)) in
          let uncharged = charge-none chart table ts cache figures arriving sure (λ n h. omega (arith, known.ceilings n h)) in
          subst (CostExactly chart figures ts cache) (sym ((totals-refusals bytes chart table figures on.read).sums summable))
          record { given = refl; low = omega arith; high = omega arith }

-- ---- where totals are given

-- Then they are sums, and what sums ask holds.
given-summable : (bytes : List ℕ) (chart : Chart) (table : Lent) (figures : Figures) → read_chart bytes ≡ accepted chart → (totals_say (totals bytes table figures)).number ≡ 0 → Summable chart table figures
given-summable bytes chart table figures read given = go (totals bytes table figures) refl
  where
    go : (answer : Result Totals Refusal) → totals bytes table figures ≡ answer → Summable chart table figures
    go (Ok sums) e = (totals-refusals bytes chart table figures read).only_sums sums.low sums.high e
    go (Err refusal) e = absurd (omega (arith, ap (λ (t : Result Totals Refusal). (totals_say t).number) e, number-positive refusal))

-- ---- the classes that the analysis writes

module _ (bytes : List ℕ) (chart : Chart) (allowance passes blocks : ℕ) (lent : Buffers) (cache : Contents chart) (ts : List ℕ)
    (on : OnWalk bytes chart cache ts) (done : (analysed bytes allowance lent).answer ≡ settled_after passes blocks) where
  abbrev left : Buffers
  left = (analysed bytes allowance lent).buffers

  -- What stands at a place among the used classes.
  written-class : (i : ℕ) → i < 2 * chart.header.nodes → get_or left.classes i 0 ≡ get_or (table_classes (plan_of chart) (table_of (plan_of chart) (table_in left))) i 0
  written-class i h =
      let settles = demand2.settled bytes chart allowance passes blocks lent on.read done in
      let long = classes_long (plan_of chart) (table_of (plan_of chart) (table_in left)) in
      ap (λ (b : Buffers). get_or b.classes i 0) settles.filled
      ∙ ap (λ (T : List (Cell Ages)). get_or (table_classes (plan_of chart) T ++ drop (length (table_classes (plan_of chart) T)) lent.classes) i 0) (sym settles.table)
      ∙ get_or-written (table_classes (plan_of chart) (table_of (plan_of chart) (table_in left))) lent.classes i 0 (omega arith)

  first-written : (n : ℕ) → n < chart.header.nodes → node_class (plan_of chart) n 0 (cell_at (table_of (plan_of chart) (table_in left)) n) ≡ get_or left.classes (2 * n) 0
  first-written n h = sym (written-class (2 * n) (omega arith) ∙ first_listed (plan_of chart) (table_of (plan_of chart) (table_in left)) n h)

  second-written : (n : ℕ) → n < chart.header.nodes → node_class (plan_of chart) n 1 (cell_at (table_of (plan_of chart) (table_in left)) n) ≡ get_or left.classes (2 * n + 1) 0
  second-written n h = sym (written-class (2 * n + 1) (omega arith) ∙ second_listed (plan_of chart) (table_of (plan_of chart) (table_in left)) n h)

  abbrev laid : TablePasses (plan_of chart) (table_in left)
  laid = (demand2.settled bytes chart allowance passes blocks lent on.read done).table_passes

  class-true : (n : ℕ) (c : Contents chart) → Arrives chart (table_in left) n c → ClassTrue chart left.classes n c
  class-true n c arrived =
      let says = arrived-true bytes chart on.read (table_in left) laid.equations n c arrived in
      record {
        first_reached = λ e. arrived-reached bytes chart on.read (table_in left) laid.equations n c arrived 0 (first-written n arrived.inside ∙ e);
        second_reached = λ e. arrived-reached bytes chart on.read (table_in left) laid.equations n c arrived 1 (second-written n arrived.inside ∙ e);
        first_right = λ touch rest all. subst (λ (class : ℕ). CalledRight class ((plain_machine chart).finds touch c)) (first-written n arrived.inside) (says.first_right touch rest all);
        second_right = λ touch other rest all.
            subst (λ (class : ℕ). CalledRight class ((plain_machine chart).finds other ((plain_machine chart).act touch c))) (second-written n arrived.inside) (says.second_right touch other rest all);
      }

  pub settled-true : AtEachNode chart (ClassTrue chart left.classes) ts cache
  settled-true =
      at-nodes (plain_machine chart) (touches chart) (Arrives chart (table_in left)) (ClassTrue chart left.classes) class-true chart.header.entry ts cache
      (arriving bytes chart (table_in left) cache ts on laid)

  -- The same count as by the table that was left.
  pub settled-once : (block : ℕ) → read_misses chart left.classes block ts cache ≤ 1
  settled-once block =
      omega (
        arith,
        passing-once bytes chart (table_in left) cache ts on laid block,
        written-misses bytes chart on.read (table_in left) laid.equations left.classes first-written second-written block ts cache (arriving bytes chart (table_in left) cache ts on laid),
      )

-- ---- the demand

pub demand3 : Demand3
demand3 =
    record {
      says_true = λ bytes chart table cache ts on yes. passing-true bytes chart table cache ts on (checker_yes bytes chart table on.read yes);
      written_true = settled-true;
      kept_once = λ bytes chart table cache ts block on yes. passing-once bytes chart table cache ts on (checker_yes bytes chart table on.read yes) block;
      written_once = λ bytes chart allowance passes blocks lent cache ts block on done. settled-once bytes chart allowance passes blocks lent cache ts on done block;
      cost_between = λ bytes chart table figures cache ts answer on yes figures_fit within contract.
          subst (CostBetween chart figures ts cache) (sym contract) (passing-between bytes chart table cache ts on (checker_yes bytes chart table on.read yes) figures figures_fit within);
      given_between = λ bytes chart table figures cache ts answer on within contract given.
          let said : (totals_say (totals bytes table figures)).number ≡ 0 = ap (λ (t : Result Totals Refusal). (totals_say t).number) (sym contract) ∙ given in
          subst (CostBetween chart figures ts cache) (sym contract) (passing-between bytes chart table cache ts on (given-summable bytes chart table figures on.read said).passing figures (given-summable bytes chart table figures on.read said).figures_fit within);
      cost_exactly = λ bytes chart table figures cache ts answer on yes figures_fit known sure contract.
          let within : VisitsWithin chart figures ts = record { no_less = λ n h. omega (arith, known.floors n h); no-more = λ n h. omega (arith, known.ceilings n h) } in
          subst (CostExactly chart figures ts cache) (sym contract) (passing-exactly bytes chart table cache ts on (checker_yes bytes chart table on.read yes) figures figures_fit within known sure);
    }
