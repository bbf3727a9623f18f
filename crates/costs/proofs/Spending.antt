-- The totals are bounds: where a machine finds each touch as its class calls it, at each node of a walk, what it pays along the walk is no less than the
-- low total, and no more than the high total and the difference between a miss and a hit for each touch called kept that misses. It holds of any
-- machine, any states and any kind of touch.
use mathlib.Core.Logic.{◌⊎◌, ⊎_elim}
use mathlib.Core.Bool.{Bool, true, false, cond, not, ◌&&◌}
use mathlib.Core.List.{List, [], ◌∷◌}
use mathlib.Core.Path.{◌≡◌, refl, ap, ◌∙◌}
use Prim.Native.Nat.{ℕ, ◌+◌, ◌-◌, ◌*◌, ◌≤◌, ◌<◌}
use native.Mathlib.Decide.{ℕ_discrete}
use native.Mathlib.Nat.{add-le-add, mul-add}
use native.Mathlib.Omega.{arith}
use borrow.Author.Tests.{eq-eqb, ne_eqb}
use lib.Dec.{eqb}
use lib.ListN.{get_or}
use Rattle.flow.specs.Flow.{Cell, cell_at}
use Rattle.flow.specs.Walk.{visits_of, Machine, paid_at, paid, AtNodes, count_at, count_along}
use Rattle.flow.proofs.Paying.{floors-below, ceilings-above, ceilings-beyond, along-scales}
use Rattle.classes.specs.Class.{hit, miss, kept, classes_by, CalledRight, AllTold}
use Rattle.costs.specs.Laws.{Right, misses_kept, RightAt, ToldAt}
use Rattle.costs.specs.Costs.{Costs, Figures, low_rate, high_rate, rates_of, visit_cost, total_by, low_total_by, high_total_by}

-- ---- one touch: its class's rates, and what is paid for a hit or a miss

module _ (costs : Costs) (fair : costs.hit ≤ costs.miss) (class : ℕ) (found : Bool) where
  abbrev touch_cost : ℕ
  touch_cost = cond found costs.hit costs.miss

  low-rate : (class ≡ miss → found ≡ false) → low_rate costs class ≤ touch_cost
  low-rate misses = go (ℕ_discrete class miss) found refl
    where
      go : Dec (class ≡ miss) → (f : Bool) → found ≡ f → low_rate costs class ≤ touch_cost
      go (yes e) f q = rw (eq-eqb class miss e, misses e) (omega arith)
      go (no e) true q = rw (ne_eqb class miss e, q) (omega arith)
      go (no e) false q = rw (ne_eqb class miss e, q) (omega arith)

  -- What is paid beyond the high rate: the difference, where a touch called kept is not found.
  high-rate : (class ≡ hit → found ≡ true) → touch_cost ≤ high_rate costs class + (costs.miss - costs.hit) * cond (eqb class kept && not found) 1 0
  high-rate hits = go (ℕ_discrete class hit) (ℕ_discrete class kept) found refl
    where
      go : Dec (class ≡ hit) → Dec (class ≡ kept) → (f : Bool) → found ≡ f → touch_cost ≤ high_rate costs class + (costs.miss - costs.hit) * cond (eqb class kept && not found) 1 0
      go (yes e) k f q = rw (eq-eqb class hit e, hits e) (omega arith)
      go (no e) (yes k) true q = rw (ne_eqb class hit e, eq-eqb class kept k, q) (omega arith)
      go (no e) (yes k) false q = rw (ne_eqb class hit e, eq-eqb class kept k, q) (omega arith)
      go (no e) (no k) true q = rw (ne_eqb class hit e, ne_eqb class kept k, q) (omega arith)
      go (no e) (no k) false q = rw (ne_eqb class hit e, ne_eqb class kept k, q) (omega arith)

-- A touch that is called a hit or a miss costs the same at both rates: what is paid for it.
module _ (costs : Costs) (class : ℕ) (found : Bool) (told : (class ≡ hit) ⊎ (class ≡ miss)) (right : CalledRight class found) where
  low-exact : low_rate costs class ≡ cond found costs.hit costs.miss
  low-exact =
      ⊎_elim
      (λ (h : class ≡ hit). rw (right.hit_hits h, ne_eqb class miss (λ e. omega arith)))
      (λ (h : class ≡ miss). rw (right.miss_misses h, eq-eqb class miss h))
      told

  high-exact : high_rate costs class ≡ cond found costs.hit costs.miss
  high-exact =
      ⊎_elim
      (λ (h : class ≡ hit). rw (right.hit_hits h, eq-eqb class hit h))
      (λ (h : class ≡ miss). rw (right.miss_misses h, ne_eqb class hit (λ e. omega arith), ne_eqb class kept (λ e. omega arith)))
      told

-- ---- one visit

module _ {E W : Type 0} (M : Machine E) (class_at : E → W → ℕ) (touched_by : E → W → W) where
  module _ (costs : Costs) (fair : costs.hit ≤ costs.miss) where
    low-visit : (touches : List E) (a : W) (c : M.Contents) → Right M class_at touched_by touches a c
        → rates_of (low_rate costs) (classes_by class_at touched_by touches a) ≤ paid_at M costs.hit costs.miss touches c
    low-visit [] a c right = omega arith
    low-visit (e ∷ es) a c right =
        add-le-add (low-rate costs fair (class_at e a) (M.finds e c) right.0.miss_misses)
        (low-visit es (touched_by e a) (M.act e c) right.1)

    high-visit : (touches : List E) (a : W) (c : M.Contents) → Right M class_at touched_by touches a c
        → paid_at M costs.hit costs.miss touches c
        ≤ rates_of (high_rate costs) (classes_by class_at touched_by touches a) + (costs.miss - costs.hit) * count_at touched_by M.act (misses_kept M class_at touched_by) touches a c
    high-visit [] a c right = omega arith
    high-visit (e ∷ es) a c right =
        let here = high-rate costs fair (class_at e a) (M.finds e c) right.0.hit_hits in
        let rest = high-visit es (touched_by e a) (M.act e c) right.1 in
        let both = mul-add (costs.miss - costs.hit) (cond (misses_kept M class_at touched_by e a c) 1 0) (count_at touched_by M.act (misses_kept M class_at touched_by) es (touched_by e a) (M.act e c)) in
        omega arith

  -- What classes that are all told cost, at either rate.
  exact-visit : (costs : Costs) (rate : ℕ → ℕ)
      → ((class : ℕ) (found : Bool) → ((class ≡ hit) ⊎ (class ≡ miss)) → CalledRight class found → rate class ≡ cond found costs.hit costs.miss)
      → (touches : List E) (a : W) (c : M.Contents) → Right M class_at touched_by touches a c → AllTold (classes_by class_at touched_by touches a)
      → rates_of rate (classes_by class_at touched_by touches a) ≡ paid_at M costs.hit costs.miss touches c
  exact-visit costs rate each [] a c right told = refl
  exact-visit costs rate each (e ∷ es) a c right told =
      let here = each (class_at e a) (M.finds e c) told.0 right.0 in
      let rest = exact-visit costs rate each es (touched_by e a) (M.act e c) right.1 told.1 in
      omega arith

-- ---- a walk

-- A table whose nodes have these classes, and a machine that makes these touches at each node.
module _ {E W S : Type 0} (M : Machine E) (class_at : E → W → ℕ) (touched_by : E → W → W) (touches : ℕ → List E)
    (nodes : ℕ) (classes_at : ℕ → S → List ℕ) (states : ℕ → W) (table : List (Cell S)) (figures : Figures) (fair : figures.costs.hit ≤ figures.costs.miss) where
  abbrev RightHere : ℕ → M.Contents → Type 0
  RightHere = RightAt M class_at touched_by touches nodes classes_at states table

  abbrev ToldHere : ℕ → M.Contents → Type 0
  ToldHere = ToldAt M class_at touched_by touches nodes classes_at states table

  -- What one visit of node n costs at a rate.
  abbrev cost_at : (ℕ → ℕ) → ℕ → ℕ
  cost_at rate n = visit_cost (classes_at n) rate (cell_at table n)

  cost-is : (rate : ℕ → ℕ) (n : ℕ) (c : M.Contents) (p : RightHere n c) → cost_at rate n ≡ rates_of rate (classes_by class_at touched_by (touches n) (states n))
  cost-is rate n c p = ap (visit_cost (classes_at n) rate) p.marked ∙ ap (rates_of rate) p.classed

  module _ (n : ℕ) (ts : List ℕ) (c : M.Contents) (at : AtNodes M RightHere touches n ts c) where
    abbrev cost : ℕ
    cost = paid M figures.costs.hit figures.costs.miss touches n ts c

    pub low_below : ((k : ℕ) → k < nodes → get_or figures.floors k 0 ≤ visits_of k (n ∷ ts)) → low_total_by nodes classes_at table figures ≤ cost
    unfolding total_by
    low_below no_less =
        floors-below M figures.costs.hit figures.costs.miss touches RightHere (cost_at (low_rate figures.costs)) nodes (λ k x p. p.inside) n ts c at (λ k. get_or figures.floors k 0)
        (λ k x p. omega (arith, cost-is (low_rate figures.costs) k x p, low-visit M class_at touched_by figures.costs fair (touches k) (states k) x p.right))
        no_less

    pub high-above : ((k : ℕ) → k < nodes → visits_of k (n ∷ ts) ≤ get_or figures.ceilings k 0)
        → cost ≤ high_total_by nodes classes_at table figures + (figures.costs.miss - figures.costs.hit) * count_along M touched_by (misses_kept M class_at touched_by) touches states n ts c
    unfolding total_by
    high-above no_more =
        let d = figures.costs.miss - figures.costs.hit in
        let beyond = ceilings-beyond M figures.costs.hit figures.costs.miss touches RightHere (cost_at (high_rate figures.costs)) nodes (λ k x p. p.inside) n ts c at (λ k. get_or figures.ceilings k 0)
        (λ k x. d * count_at touched_by M.act (misses_kept M class_at touched_by) (touches k) (states k) x)
        (λ k x p. omega (arith, cost-is (high_rate figures.costs) k x p, high-visit M class_at touched_by figures.costs fair (touches k) (states k) x p.right))
        no_more in
        omega (arith, along-scales M touches d (λ k x. count_at touched_by M.act (misses_kept M class_at touched_by) (touches k) (states k) x) n ts c)

  -- ---- a walk on which all is told

  exact-cost : (rate : ℕ → ℕ)
      → ((class : ℕ) (found : Bool) → ((class ≡ hit) ⊎ (class ≡ miss)) → CalledRight class found → rate class ≡ cond found figures.costs.hit figures.costs.miss)
      → (k : ℕ) (x : M.Contents) → ToldHere k x → cost_at rate k ≡ paid_at M figures.costs.hit figures.costs.miss (touches k) x
  exact-cost rate each k x p =
      cost-is rate k x p.at
      ∙ exact-visit M class_at touched_by figures.costs rate each (touches k) (states k) x p.at.right (rw p.at.classed at p.told)

  module _ (n : ℕ) (ts : List ℕ) (c : M.Contents) (at : AtNodes M ToldHere touches n ts c) where
    pub low-reached : ((k : ℕ) → k < nodes → visits_of k (n ∷ ts) ≤ get_or figures.floors k 0)
        → paid M figures.costs.hit figures.costs.miss touches n ts c ≤ low_total_by nodes classes_at table figures
    unfolding total_by
    low-reached no_more =
        ceilings-above M figures.costs.hit figures.costs.miss touches ToldHere (cost_at (low_rate figures.costs)) nodes (λ k x p. p.at.inside) n ts c at (λ k. get_or figures.floors k 0)
        (λ k x p. omega (arith, exact-cost (low_rate figures.costs) (low-exact figures.costs) k x p))
        no_more

    pub high-reached : ((k : ℕ) → k < nodes → get_or figures.ceilings k 0 ≤ visits_of k (n ∷ ts))
        → high_total_by nodes classes_at table figures ≤ paid M figures.costs.hit figures.costs.miss touches n ts c
    unfolding total_by
    high-reached no_less =
        floors-below M figures.costs.hit figures.costs.miss touches ToldHere (cost_at (high_rate figures.costs)) nodes (λ k x p. p.at.inside) n ts c at (λ k. get_or figures.ceilings k 0)
        (λ k x p. omega (arith, exact-cost (high_rate figures.costs) (high-exact figures.costs) k x p))
        no_less
