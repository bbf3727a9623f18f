-- What a touch is called, and what the totals and the plain machine count for it, at every node and column, however large. Totals that pay less on one
-- side and more on the other are looser and would keep demand 3; so would totals and a machine that leave the same touch out. Rules 5.3, 8.1, 8.2 and 10.2
-- to 10.4. `paying` in proofs/Paying.antt proves it.
use Rattle.std.specs.Prelude.{ℕ, suc, ◌+◌, ◌-◌, ◌*◌, ◌<◌, true, false, cond, List, [], ◌∷◌, ◌⊎◌, ◌≡◌, ltb, get_or}
use Rattle.lists.specs.Lists.{sum_of}
use Rattle.chart.specs.Record.{Touch}
use Rattle.chart.specs.Chart.{Chart, touches}
use Rattle.cache.specs.Ages.{Ages}
use Rattle.flow.specs.Flow.{Cell, blank, holds, cell_at}
use Rattle.flow.specs.Walk.{in_turn, paid_at, paid}
use Rattle.ages.specs.Plan.{ColumnTouch, Plan, columns_of, touches_in}
use Rattle.kept.specs.Since.{Since}
use Rattle.kept.specs.Kept.{stays_by}
use Rattle.classes.specs.Class.{Whole, class_by, class_of, node_class}
use Rattle.costs.specs.Costs.{Costs, Figures, high_rate, low_rate, visit_cost, classes_at, keeps_at, charged_for, high_total, low_total}
use Rattle.machine.specs.Machine.{plain_machine, Contents, cost_of}

pub record Paying : Type 0 where
  -- rule 8.2: a class goes by the limit, the two ages of the column touched, and the set of its block
  pub class_is : (plan : Plan) (touch : ColumnTouch) (whole : Whole)
      → class_of plan touch whole
      ≡ class_by ((columns_of plan).must_limit touch.column) (get_or whole.ages.must touch.column 0) (get_or whole.ages.may touch.column 0)
      (stays_by plan touch.column (whole.since touch.column))
  -- rule 8.1: few blocks are in a set where its members are fewer than the column's limit
  pub stays_is : (plan : Plan) (column : ℕ) (since : Since)
      → stays_by plan column since ≡ ltb (sum_of plan.blocks (λ other. cond (get_or since.others other false) 1 0)) ((columns_of plan).may_limit column)
  -- rules 10.2 and 10.3: hits, misses, unsure and kept touches, by their numbers
  pub rates : (costs : Costs)
      → high_rate costs 1 ∷ high_rate costs 2 ∷ high_rate costs 3 ∷ high_rate costs 5 ∷ low_rate costs 1 ∷ low_rate costs 2 ∷ low_rate costs 3 ∷ low_rate costs 5 ∷ []
      ≡ costs.hit ∷ costs.miss ∷ costs.miss ∷ costs.hit ∷ costs.hit ∷ costs.miss ∷ costs.hit ∷ costs.hit ∷ []
  pub high_sum : (plan : Plan) (table : List (Cell Ages)) (figures : Figures)
      → high_total plan table figures
      ≡ sum_of plan.nodes (λ n. get_or figures.ceilings n 0 * visit_cost (classes_at plan n) (high_rate figures.costs) (cell_at table n))
      + (figures.costs.miss - figures.costs.hit) * sum_of plan.blocks (λ column. cond (charged_for plan table figures.ceilings column) 1 0)
  -- rule 10.4: a block is charged for exactly where a touch of it is called kept at some node whose ceiling is above 0
  pub charged-by : (plan : Plan) (table : List (Cell Ages)) (ceilings : List ℕ) (column : ℕ)
      → charged_for plan table ceilings column ≡ true
      → (n : ℕ) × (n < plan.nodes) × ((0 < get_or ceilings n 0) × (keeps_at plan column n (cell_at table n) ≡ true))
  pub charges : (plan : Plan) (table : List (Cell Ages)) (ceilings : List ℕ) (column n : ℕ)
      → n < plan.nodes
      → 0 < get_or ceilings n 0
      → keeps_at plan column n (cell_at table n) ≡ true
      → charged_for plan table ceilings column ≡ true
  pub keeps_unmarked : (plan : Plan) (column n : ℕ) → keeps_at plan column n blank ≡ false
  pub keeps_none : (plan : Plan) (column n : ℕ) (a : Ages) → touches_in plan n ≡ [] → keeps_at plan column n (holds a) ≡ false
  pub keeps_first : (plan : Plan) (column n : ℕ) (a : Ages) (touch : ColumnTouch) (rest : List ColumnTouch)
      → touches_in plan n ≡ touch ∷ rest
      → touch.column ≡ column
      → node_class plan n 0 (holds a) ≡ 5
      → keeps_at plan column n (holds a) ≡ true
  pub keeps_second : (plan : Plan) (column n : ℕ) (a : Ages) (touch other : ColumnTouch) (rest : List ColumnTouch)
      → touches_in plan n ≡ touch ∷ other ∷ rest
      → other.column ≡ column
      → node_class plan n 1 (holds a) ≡ 5
      → keeps_at plan column n (holds a) ≡ true
  pub keeps_one : (plan : Plan) (column n : ℕ) (a : Ages) (touch : ColumnTouch)
      → touches_in plan n ≡ touch ∷ []
      → keeps_at plan column n (holds a) ≡ true
      → (touch.column ≡ column) × (node_class plan n 0 (holds a) ≡ 5)
  pub keeps_two : (plan : Plan) (column n : ℕ) (a : Ages) (touch other : ColumnTouch)
      → touches_in plan n ≡ touch ∷ other ∷ []
      → keeps_at plan column n (holds a) ≡ true
      → ((touch.column ≡ column) × (node_class plan n 0 (holds a) ≡ 5)) ⊎ ((other.column ≡ column) × (node_class plan n 1 (holds a) ≡ 5))
  pub low_sum : (plan : Plan) (table : List (Cell Ages)) (figures : Figures)
      → low_total plan table figures
      ≡ sum_of plan.nodes (λ n. get_or figures.floors n 0 * visit_cost (classes_at plan n) (low_rate figures.costs) (cell_at table n))
  pub sum_none : (f : ℕ → ℕ) → sum_of 0 f ≡ 0
  pub sum_next : (n : ℕ) (f : ℕ → ℕ) → sum_of (suc n) f ≡ sum_of n f + f n
  -- rule 5.3: the plain machine pays each touch of each node on the walk, with the contents that the touches before it left
  pub pays_walk : (chart : Chart) (h m : ℕ) (ts : List ℕ) (c : Contents chart)
      → cost_of chart h m ts c ≡ paid (plain_machine chart) h m (touches chart) chart.header.entry ts c
  pub pays_last : (chart : Chart) (h m n : ℕ) (c : Contents chart)
      → paid (plain_machine chart) h m (touches chart) n [] c ≡ paid_at (plain_machine chart) h m (touches chart n) c
  pub pays_on : (chart : Chart) (h m n t : ℕ) (ts : List ℕ) (c : Contents chart)
      → paid (plain_machine chart) h m (touches chart) n (t ∷ ts) c
      ≡ paid_at (plain_machine chart) h m (touches chart n) c + paid (plain_machine chart) h m (touches chart) t ts (in_turn (plain_machine chart).act (touches chart n) c)
  pub pays_nothing : (chart : Chart) (h m : ℕ) (c : Contents chart) → paid_at (plain_machine chart) h m [] c ≡ 0
  pub pays_touch : (chart : Chart) (h m : ℕ) (c : Contents chart) (touch : Touch) (others : List Touch)
      → paid_at (plain_machine chart) h m (touch ∷ others) c
      ≡ cond ((plain_machine chart).finds touch c) h m + paid_at (plain_machine chart) h m others ((plain_machine chart).act touch c)
