-- The two sums: no sum overflows, and those over all nodes by a list of their classes, touch by touch, are the totals but for what rule 10.4 adds.
use Rattle.std.specs.Prelude.{None, Option, Some}
use Prim.Native.Nat.{ℕ, suc, ◌+◌, ◌*◌, ◌≤◌, ◌<◌}
use mathlib.Core.Bool.{Bool, true, false, cond, ◌||◌}
use mathlib.Core.List.{List, [], ◌∷◌}
use mathlib.Core.Path.{◌≡◌, sym, ap, subst, ◌∙◌}
use native.Mathlib.Nat.{mul-le-mul, mul-add}
use native.Mathlib.Omega.{arith}
use lib.Dec.{eqb}
use lib.ListN.{get_or, length}
use Rattle.lists.specs.Lists.{sum_of, written}
use Rattle.lists.proofs.Joined.{get_or-written}
use Rattle.lists.proofs.Sums.{sum-equal}
use Rattle.chart.specs.Geometry.{most_touches}
use Rattle.cache.specs.Ages.{Ages}
use Rattle.flow.specs.Flow.{Cell, cell_at}
use Rattle.ages.specs.Plan.{ColumnTouch, Plan, touches_in}
use Rattle.classes.specs.Class.{unreached, hit, miss, none, kept, node_class, table_classes}
use Rattle.classes.proofs.Places.{classes_long, first_listed, second_listed}
use Rattle.costs.specs.Costs.{Costs, Figures, high_rate, low_rate, visit_cost, total_by, high_total_by, low_total, classes_at, class_cost}
use Rattle.costs.proofs.Classed.{node-cost}
use Rattle.plan.specs.Listed.{nodes_in, node_in, touches_by, plan_in}
use Rattle.plan.proofs.Holding.{touches-held}
use Rattle.tables.specs.Lent.{Lent, table_of}
use Rattle.totals.specs.declared.Totals.{Totals}
use Rattle.totals.specs.Inner.{most_added, Small, touch_added, classes_cost, sums_to}
use Rattle.plan.specs.declared.ColumnTouches.{ColumnTouches}

-- ---- no sum overflows

cond-most : (t : Bool) (a b most : ℕ) → a ≤ most → b ≤ most → cond t a b ≤ most
cond-most true a b most h g = h
cond-most false a b most h g = g

pub added-most : (times rate : ℕ) → times ≤ 65535 → rate ≤ 65535 → times * rate ≤ most_added
added-most times rate h g = mul-le-mul {n₂ = 65535} {m₂ = 65535} h g

pub small-more : (n m : ℕ) (sums : Totals) → n ≤ m → Small n sums → Small m sums
small-more n m sums h s = record { low_most = omega (arith, s.low_most); high_most = omega (arith, s.high_most) }

-- Where the costs have 16 bits, so has what a touch counts; and with floor and ceiling of 16 bits, one touch more is one time the most more.
module _ (costs : Costs) (h : costs.hit ≤ 65535) (g : costs.miss ≤ 65535) (class : ℕ) where
  pub low-rate-most : low_rate costs class ≤ 65535
  low-rate-most = cond-most (eqb class miss) costs.miss costs.hit 65535 g h

  pub high-rate-most : high_rate costs class ≤ 65535
  high-rate-most = cond-most (eqb class hit || eqb class kept) costs.hit costs.miss 65535 h g

  cost-most : (rate : ℕ → ℕ) → rate class ≤ 65535 → class_cost rate class ≤ 65535
  cost-most rate most = cond-most (eqb class unreached || eqb class none) 0 (rate class) 65535 (omega arith) most

  pub small-turn : (floor ceiling : ℕ) → floor ≤ 65535 → ceiling ≤ 65535 → (n : ℕ) (sums : Totals) → Small n sums → Small (n + 1) (touch_added costs class floor ceiling sums)
  small-turn floor ceiling f c n sums s =
      record {
        low_most = omega (arith, s.low_most, added-most floor (class_cost (low_rate costs) class) f (cost-most (low_rate costs) low-rate-most));
        high_most = omega (arith, s.high_most, added-most ceiling (class_cost (high_rate costs) class) c (cost-most (high_rate costs) high-rate-most));
      }

-- A visit that counts nothing adds nothing.
pub nothing-added : (floor ceiling : ℕ) (sums : Totals) → sums ≡ record { low = sums.low + floor * 0; high = sums.high + ceiling * 0 }
nothing-added floor ceiling sums =
    let low : sums.low ≡ sums.low + floor * 0 = omega arith in
    let high : sums.high ≡ sums.high + ceiling * 0 = omega arith in
    λ i. record { low = low i; high = high i }

-- ---- a turn of the loop over the nodes

pub sums-turn : (classes : List ℕ) (figures : Figures) (n : ℕ) (sums : Totals) → sums ≡ sums_to classes figures n
    → touch_added figures.costs (get_or classes (most_touches * n + 1) 0) (get_or figures.floors n 0) (get_or figures.ceilings n 0)
    (touch_added figures.costs (get_or classes (most_touches * n) 0) (get_or figures.floors n 0) (get_or figures.ceilings n 0) sums)
    ≡ sums_to classes figures (n + 1)
sums-turn classes figures n sums e =
    ap (λ (s : Totals). touch_added figures.costs (get_or classes (most_touches * n + 1) 0) (get_or figures.floors n 0) (get_or figures.ceilings n 0)
    (touch_added figures.costs (get_or classes (most_touches * n) 0) (get_or figures.floors n 0) (get_or figures.ceilings n 0) s)) e
    ∙ (λ i. record {
      low = both (sums_to classes figures n).low (get_or figures.floors n 0) (class_cost (low_rate figures.costs) (get_or classes (most_touches * n) 0)) (class_cost (low_rate figures.costs) (get_or classes (most_touches * n + 1) 0)) i;
      high = both (sums_to classes figures n).high (get_or figures.ceilings n 0) (class_cost (high_rate figures.costs) (get_or classes (most_touches * n) 0)) (class_cost (high_rate figures.costs) (get_or classes (most_touches * n + 1) 0)) i;
    })
    ∙ ap (sums_to classes figures) next
  where
    next : suc n ≡ n + 1
    next = omega arith

    both : (sum times one two : ℕ) → sum + times * one + times * two ≡ sum + times * (one + two)
    both sum times one two = rw (mul-add times one two) (omega arith)

-- ---- the sums are the totals

pub few-touches : (planned : Option ColumnTouches) → length (touches_by planned) ≤ 2
few-touches None = omega arith
few-touches (Some reference) = go (eqb reference.lower reference.upper)
  where
    go : (t : Bool) → length {A = ColumnTouch} (record { column = reference.lower; write = reference.write } ∷ cond t [] (record { column = reference.upper; write = reference.write } ∷ [])) ≤ 2
    go true = omega arith
    go false = omega arith

-- A list that begins with the classes of all nodes of a table.
module _ (columns plan : List ℕ) (lent : Lent) (classes before : List ℕ)
    (is : classes ≡ written (table_classes (plan_in columns plan) (table_of (plan_in columns plan) lent)) before) where
  abbrev held : Plan
  held = plan_in columns plan

  abbrev table : List (Cell Ages)
  table = table_of held lent

  listed : (i : ℕ) → i < most_touches * nodes_in plan → get_or classes i 0 ≡ get_or (table_classes held table) i 0
  listed i h =
      let long = classes_long held table in
      ap (λ (l : List ℕ). get_or l i 0) is ∙ get_or-written (table_classes held table) before i 0 (omega arith)

  pub first-class : (n : ℕ) → n < nodes_in plan → get_or classes (most_touches * n) 0 ≡ node_class held n 0 (cell_at table n)
  first-class n h = listed (most_touches * n) (omega arith) ∙ first_listed held table n h

  pub second-class : (n : ℕ) → n < nodes_in plan → get_or classes (most_touches * n + 1) 0 ≡ node_class held n 1 (cell_at table n)
  second-class n h = listed (most_touches * n + 1) (omega arith) ∙ second_listed held table n h

  -- What a visit of a node counts is what its two classes count.
  pub visit-is : (rate : ℕ → ℕ) (n : ℕ) → n < nodes_in plan → classes_cost rate classes n ≡ visit_cost (classes_at held n) rate (cell_at table n)
  visit-is rate n h =
      let few : length (touches_in held n) ≤ 2 = subst (λ (touches : List ColumnTouch). length touches ≤ 2) (sym (touches-held columns plan n h)) (few-touches (node_in plan n).what) in
      (λ i. class_cost rate (first-class n h i) + class_cost rate (second-class n h i)) ∙ sym (node-cost rate held n few (cell_at table n))

  counted : (rate : ℕ → ℕ) (times : List ℕ) → sum_of (nodes_in plan) (λ n. get_or times n 0 * classes_cost rate classes n) ≡ total_by (nodes_in plan) (classes_at held) table rate times
  unfolding total_by
  counted rate times =
      sum-equal (nodes_in plan) (λ n. get_or times n 0 * classes_cost rate classes n) (λ n. get_or times n 0 * visit_cost (classes_at held n) rate (cell_at table n))
      (λ n h. ap (λ (k : ℕ). get_or times n 0 * k) (visit-is rate n h))

  pub low-is : (figures : Figures) → (sums_to classes figures (nodes_in plan)).low ≡ low_total held table figures
  low-is figures = counted (low_rate figures.costs) figures.floors

  pub high_is : (figures : Figures) → (sums_to classes figures (nodes_in plan)).high ≡ high_total_by (nodes_in plan) (classes_at held) table figures
  high_is figures = counted (high_rate figures.costs) figures.ceilings
