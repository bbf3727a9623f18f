-- What touches called kept cost beyond the hits that the high total counts for them: no more than rule 10.4 charges, and nothing where none is called so.
use Prim.Native.Nat.{ℕ, ◌-◌, ◌*◌, ◌≤◌, ◌<◌, zero-le}
use mathlib.Core.Bool.{Bool, true, false, cond, ◌&&◌, ◌||◌}
use mathlib.Core.List.{List, [], ◌∷◌, map}
use mathlib.Core.Logic.{inl, inr, ⊎_elim}
use mathlib.Core.Path.{◌≡◌, refl, sym, ap, subst, ◌∙◌}
use native.Mathlib.Nat.{mul-le-mul_left}
use native.Mathlib.Omega.{arith}
use borrow.Author.Tests.{eq-eqb, ne_eqb, lt-ltb}
use lib.Dec.{eqb, ltb}
use lib.ListN.{get_or}
use Rattle.lists.specs.Lists.{Among, sum_of}
use Rattle.lists.proofs.Choice.{or-false}
use Rattle.lists.proofs.Loops.{any_none}
use Rattle.lists.proofs.Sums.{sum_both, sum-monotone, sum-term}
use Rattle.chart.specs.Record.{Touch}
use Rattle.chart.specs.Chart.{Chart, accepted, read_chart, touches, block_count}
use Rattle.flow.specs.Flow.{holds, cell_at}
use Rattle.flow.specs.Walk.{Machine, visits_of, in_turn, count_at, count_along, AtNodes, AtTouches}
use Rattle.flow.proofs.Paying.{along-sums, along-monotone}
use Rattle.flow.proofs.Walking.{at-nodes, at-nodes-both}
use Rattle.ages.specs.Plan.{ColumnTouch}
use Rattle.ages.specs.Charted.{column_of, block_at, column_touch, plan_of}
use Rattle.ages.proofs.Charting.{touches-planned, column-inside, column-holds}
use Rattle.chart.proofs.Accepted.{accepted-apart}
use Rattle.classes.specs.Class.{hit, miss, kept, Whole, classes_by, AllTold}
use Rattle.machine.specs.Machine.{plain_machine, Contents}
use Rattle.machine.specs.Keeping.{touch_whole, called_kept, kept_miss}
use Rattle.machine.proofs.Counting.{count_none}
use Rattle.machine.proofs.Uncounted.{none-counted}
use Rattle.costs.specs.Costs.{Figures, keeps_among, keeps_at, charged_for, kept_charge}
use Rattle.costs.specs.Laws.{misses_kept}
use Rattle.tables.specs.Lent.{Lent, ages_at, table_of}
use Rattle.demands.specs.Demand3.{whole_in, AtEachNode, kept_misses}
use Rattle.demands.specs.Inner.{touch_class, Arrives}
use Rattle.demands.proofs.Truth.{classes-charted}

-- ---- nodes of a walk are visited

-- Where visits are no more than ceilings, the ceiling of each node of a walk is above 0.
module _ {E : Type 0} (M : Machine E) (touches_of : ℕ → List E) (nodes : ℕ) (ceiling : ℕ → ℕ) where
  visited : (k : ℕ) (ks : List ℕ) → visits_of k (k ∷ ks) ≤ ceiling k → 0 < ceiling k
  visited k ks m = let once = (rw (eq-eqb k k refl) at m) in omega arith

  pub ceilings-above-zero : (n : ℕ) (ts : List ℕ) (c : M.Contents) → AtNodes M (λ k d. k < nodes) touches_of n ts c
      → ((k : ℕ) → k < nodes → visits_of k (n ∷ ts) ≤ ceiling k) → AtNodes M (λ k d. 0 < ceiling k) touches_of n ts c
  ceilings-above-zero n [] c inside most = visited n [] (most n inside)
  ceilings-above-zero n (t ∷ ts) c inside most =
      (visited n (t ∷ ts) (most n inside.0), ceilings-above-zero t ts (in_turn M.act (touches_of n) c) inside.1 (λ k h. omega (arith, most k h)))

module _ (bytes : List ℕ) (chart : Chart) (read : read_chart bytes ≡ accepted chart) (table : Lent) where
  -- ---- a touch called kept that misses is one of some block's

  abbrev missed : Touch → Whole → Contents chart → Bool
  missed = misses_kept (plain_machine chart) (touch_class chart) (touch_whole chart)

  abbrev of_block : ℕ → Touch → Whole → Contents chart → Bool
  of_block column = kept_miss chart (block_at chart column)

  -- One touch.
  touch-of : (n : ℕ) → n < chart.header.nodes → (t : Touch) → Among t (touches chart n) → (whole : Whole) (c : Contents chart)
      → cond (missed t whole c) 1 0 ≤ sum_of (block_count chart) (λ column. cond (of_block column t whole c) 1 0)
  touch-of n h t among whole c =
      let column = column_of chart t.block in
      let one : eqb t.block (block_at chart column) ≡ true = eq-eqb t.block (block_at chart column) (sym (column-holds bytes chart read n h t among)) in
      let term = sum-term (block_count chart) column (λ column. cond (of_block column t whole c) 1 0) (column-inside bytes chart read n h t among) in
      let same : of_block column t whole c ≡ missed t whole c = (rw one refl) in
      subst (λ (b : Bool). cond b 1 0 ≤ sum_of (block_count chart) (λ column. cond (of_block column t whole c) 1 0)) same term

  -- The touches of a node.
  node-of : (n : ℕ) → n < chart.header.nodes → (es : List Touch) → ((t : Touch) → Among t es → Among t (touches chart n)) → (whole : Whole) (c : Contents chart)
      → count_at (touch_whole chart) (plain_machine chart).act missed es whole c
      ≤ sum_of (block_count chart) (λ column. count_at (touch_whole chart) (plain_machine chart).act (of_block column) es whole c)
  node-of n h [] among whole c = zero-le
  node-of n h (t ∷ es) among whole c =
      let here = touch-of n h t (among t (inl refl)) whole c in
      let rest = node-of n h es (λ k i. among k (inr i)) (touch_whole chart t whole) ((plain_machine chart).act t c) in
      let both = sum_both (block_count chart) (λ column. cond (of_block column t whole c) 1 0) (λ column. count_at (touch_whole chart) (plain_machine chart).act (of_block column) es (touch_whole chart t whole) ((plain_machine chart).act t c)) in
      omega arith

  -- ---- a block that is not charged for

  -- A class list in which no touch of a column is called kept.
  none_kept : (column : ℕ) → column < block_count chart → (n : ℕ) → n < chart.header.nodes → (es : List Touch) → ((t : Touch) → Among t es → Among t (touches chart n)) → (whole : Whole) (c : Contents chart)
      → keeps_among column (map (column_touch chart) es) (classes_by (touch_class chart) (touch_whole chart) es whole) ≡ false
      → AtTouches (touch_whole chart) (plain_machine chart).act (λ t w x. t.block ≡ block_at chart column → called_kept chart t w ≡ false) es whole c
  none_kept column inside n h [] among whole c e = tt
  none_kept column inside n h (t ∷ es) among whole c e =
      let both = or-false (eqb (column_of chart t.block) column && called_kept chart t whole) (keeps_among column (map (column_touch chart) es) (classes_by (touch_class chart) (touch_whole chart) es (touch_whole chart t whole))) e in
      (λ q. here q both.0, none_kept column inside n h es (λ k i. among k (inr i)) (touch_whole chart t whole) ((plain_machine chart).act t c) both.1)
    where
      here : t.block ≡ block_at chart column → (eqb (column_of chart t.block) column && called_kept chart t whole) ≡ false → called_kept chart t whole ≡ false
      here q f =
          let i = among t (inl refl) in
          let is : column_of chart t.block ≡ column
          = accepted-apart bytes chart read (column_of chart t.block) column (column-inside bytes chart read n h t i) inside (column-holds bytes chart read n h t i ∙ q) in
          rw (eq-eqb (column_of chart t.block) column is) at f

  -- At a node that is arrived at, with a ceiling above 0.
  uncharged-node : (column : ℕ) → column < block_count chart → (ceilings : List ℕ) → charged_for (plan_of chart) (table_of (plan_of chart) table) ceilings column ≡ false
      → (n : ℕ) (c : Contents chart) → Arrives chart table n c → 0 < get_or ceilings n 0
      → count_at (touch_whole chart) (plain_machine chart).act (of_block column) (touches chart n) (whole_in chart table n) c ≡ 0
  uncharged-node column inside ceilings e n c arrived above =
      let h = arrived.inside in
      let at = any_none chart.header.nodes (λ k. ltb 0 (get_or ceilings k 0) && keeps_at (plan_of chart) column k (cell_at (table_of (plan_of chart) table) k)) e n h in
      let keeps : keeps_at (plan_of chart) column n (cell_at (table_of (plan_of chart) table) n) ≡ false = (rw (lt-ltb 0 (get_or ceilings n 0) above) at at) in
      let held : keeps_at (plan_of chart) column n (holds (ages_at (plan_of chart) table n)) ≡ false = sym (ap (keeps_at (plan_of chart) column n) arrived.marked) ∙ keeps in
      let listed : keeps_among column (map (column_touch chart) (touches chart n)) (classes_by (touch_class chart) (touch_whole chart) (touches chart n) (whole_in chart table n)) ≡ false
      = (λ i. keeps_among column (sym (touches-planned chart n h) i) (sym (classes-charted chart n h (ages_at (plan_of chart) table n)) i)) ∙ held in
      none-counted chart (block_at chart column) (touches chart n) (whole_in chart table n) c (none_kept column inside n h (touches chart n) (λ t i. i) (whole_in chart table n) c listed)

  -- ---- along a walk

  module _ (ts : List ℕ) (cache : Contents chart) (arriving : AtEachNode chart (Arrives chart table) ts cache)
      (once : (block : ℕ) → kept_misses chart table block ts cache ≤ 1) (figures : Figures)
      (no_more : (n : ℕ) → n < chart.header.nodes → visits_of n (chart.header.entry ∷ ts) ≤ get_or figures.ceilings n 0) where
    abbrev entry : ℕ
    entry = chart.header.entry

    above : AtEachNode chart (λ n c. 0 < get_or figures.ceilings n 0) ts cache
    above =
        ceilings-above-zero (plain_machine chart) (touches chart) chart.header.nodes (λ n. get_or figures.ceilings n 0) entry ts cache
        (at-nodes (plain_machine chart) (touches chart) (Arrives chart table) (λ n c. n < chart.header.nodes) (λ n c a. a.inside) entry ts cache arriving) no_more

    -- Of each block no more touches are missed than are charged for.
    block-charged : (column : ℕ) → column < block_count chart → kept_misses chart table (block_at chart column) ts cache ≤ cond (charged_for (plan_of chart) (table_of (plan_of chart) table) figures.ceilings column) 1 0
    block-charged column inside = go (charged_for (plan_of chart) (table_of (plan_of chart) table) figures.ceilings column) refl
      where
        go : (t : Bool) → charged_for (plan_of chart) (table_of (plan_of chart) table) figures.ceilings column ≡ t → kept_misses chart table (block_at chart column) ts cache ≤ cond t 1 0
        go true e = once (block_at chart column)
        go false e =
            omega (
              arith,
              count_none (plain_machine chart) (touch_whole chart) (kept_miss chart (block_at chart column)) (touches chart) (whole_in chart table) entry ts cache
                  (at-nodes-both (plain_machine chart) (touches chart) (Arrives chart table) (λ n c. 0 < get_or figures.ceilings n 0)
                  (λ n c. count_at (touch_whole chart) (plain_machine chart).act (of_block column) (touches chart n) (whole_in chart table n) c ≡ 0)
                  (λ n c a u. uncharged-node column inside figures.ceilings e n c a u) entry ts cache arriving above),
            )

    all-missed : count_along (plain_machine chart) (touch_whole chart) missed (touches chart) (whole_in chart table) entry ts cache
        ≤ sum_of (block_count chart) (λ column. cond (charged_for (plan_of chart) (table_of (plan_of chart) table) figures.ceilings column) 1 0)
    all-missed =
        let split = along-monotone (plain_machine chart) (touches chart) (Arrives chart table)
        (λ n c. count_at (touch_whole chart) (plain_machine chart).act missed (touches chart n) (whole_in chart table n) c)
        (λ n c. sum_of (block_count chart) (λ column. count_at (touch_whole chart) (plain_machine chart).act (of_block column) (touches chart n) (whole_in chart table n) c))
        (λ n c a. node-of n a.inside (touches chart n) (λ t i. i) (whole_in chart table n) c) entry ts cache arriving in
        let swapped = along-sums (plain_machine chart) (touches chart) (block_count chart) (λ column n c. count_at (touch_whole chart) (plain_machine chart).act (of_block column) (touches chart n) (whole_in chart table n) c) entry ts cache in
        let each = sum-monotone (block_count chart) (λ column. kept_misses chart table (block_at chart column) ts cache) (λ column. cond (charged_for (plan_of chart) (table_of (plan_of chart) table) figures.ceilings column) 1 0) block-charged in
        omega arith

    -- Rule 10.4 charges for them.
    pub charge-above : (figures.costs.miss - figures.costs.hit) * count_along (plain_machine chart) (touch_whole chart) (misses_kept (plain_machine chart) (touch_class chart) (touch_whole chart)) (touches chart) (whole_in chart table) entry ts cache
        ≤ kept_charge (plan_of chart) (table_of (plan_of chart) table) figures
    unfolding kept_charge
    charge-above = mul-le-mul_left (figures.costs.miss - figures.costs.hit) all-missed

-- ---- nothing is kept

-- Classes that are hits and misses have no kept one among them.
pub told_none : (column : ℕ) (touches : List ColumnTouch) (classes : List ℕ) → AllTold classes → keeps_among column touches classes ≡ false
told_none column [] classes told = refl
told_none column (touch ∷ touches) [] told = refl
told_none column (touch ∷ touches) (class ∷ classes) told = rw (other, told_none column touches classes told.1) (and_none (eqb touch.column column))
  where
    other : eqb class kept ≡ false
    other = ne_eqb class kept (λ e. ⊎_elim (λ (q : class ≡ hit). omega arith) (λ (q : class ≡ miss). omega arith) told.0)

    and_none : (a : Bool) → ((a && false) || false) ≡ false
    and_none true = refl
    and_none false = refl
