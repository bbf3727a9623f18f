-- What classes cost, and the two totals of a table. Rules 10.1 to 10.4: 10.2 and 10.3 for any states and touches, and then all of a plan.
-- Choices: costs, floors and ceilings are any numbers, since no test and no sum depends on their width, and `totals::total` takes them in 16
-- bits; a floor or ceiling that is not there counts as 0, and refusal 14 comes before.
use Rattle.std.specs.Prelude.{ℕ, ◌+◌, ◌-◌, ◌*◌, Bool, false, cond, ◌&&◌, ◌||◌, List, [], ◌∷◌, get_or, eqb, ltb}
use Rattle.lists.specs.Lists.{sum_of}
use Rattle.lists.specs.Loops.{any}
use Rattle.cache.specs.Ages.{Ages}
use Rattle.flow.specs.Flow.{Cell, blank, holds, cell_at}
use Rattle.ages.specs.Plan.{ColumnTouch, Plan, touches_in}
use Rattle.classes.specs.Class.{unreached, hit, miss, none, kept, whole_at, classes_of}

-- Rule 10.1: the two costs.
pub record Costs : Type 0 where
  pub hit : ℕ
  pub miss : ℕ

-- Rule 10.1: all that is given.
pub record Figures : Type 0 where
  pub costs : Costs
  pub floors : List ℕ
  pub ceilings : List ℕ

-- Rule 10.2: what a ceiling is multiplied with, by the class.
abbrev pub high_rate : Costs → ℕ → ℕ
high_rate costs class = cond (eqb class hit || eqb class kept) costs.hit costs.miss

-- Rule 10.3: what a floor is multiplied with, by the class.
abbrev pub low_rate : Costs → ℕ → ℕ
low_rate costs class = cond (eqb class miss) costs.miss costs.hit

-- What these classes cost at a rate, in all.
abbrev pub rates_of : (ℕ → ℕ) → List ℕ → ℕ
rates_of rate [] = 0
rates_of rate (class ∷ classes) = rate class + rates_of rate classes

-- Rules 10.2 and 10.3: what one visit of a node counts, by the classes of its touches. Nothing at an unmarked node or a bare step.
abbrev pub visit_cost : {S : Type 0} → (S → List ℕ) → (ℕ → ℕ) → Cell S → ℕ
visit_cost classes rate blank = 0
visit_cost classes rate (holds a) = rates_of rate (classes a)

-- Rules 10.2 and 10.3: so many times what one visit counts, over all nodes. Only touches of marked nodes count anything.
unfoldable pub total_by : {S : Type 0} → ℕ → (ℕ → S → List ℕ) → List (Cell S) → (ℕ → ℕ) → List ℕ → ℕ
total_by nodes classes_at table rate times =
    sum_of nodes (λ n. get_or times n 0 * visit_cost (classes_at n) rate (cell_at table n))

-- Rule 10.2, for any states, but for what rule 10.4 adds.
abbrev pub high_total_by : {S : Type 0} → ℕ → (ℕ → S → List ℕ) → List (Cell S) → Figures → ℕ
high_total_by nodes classes_at table figures = total_by nodes classes_at table (high_rate figures.costs) figures.ceilings

-- Rule 10.3, for any states.
abbrev pub low_total_by : {S : Type 0} → ℕ → (ℕ → S → List ℕ) → List (Cell S) → Figures → ℕ
low_total_by nodes classes_at table figures = total_by nodes classes_at table (low_rate figures.costs) figures.floors

-- ---- of a plan

-- The classes of the touches of a plan's node.
abbrev pub classes_at : Plan → ℕ → Ages → List ℕ
classes_at plan n a = classes_of plan (touches_in plan n) (whole_at plan n a)

-- Rule 10.4: whether, of touches with these classes, one of a block is called kept.
abbrev pub keeps_among : ℕ → List ColumnTouch → List ℕ → Bool
keeps_among block [] classes = false
keeps_among block (touch ∷ touches) [] = false
keeps_among block (touch ∷ touches) (class ∷ classes) = (eqb touch.column block && eqb class kept) || keeps_among block touches classes

-- Rule 10.4: whether a touch of a block is called kept at node n. An unmarked node has none.
abbrev pub keeps_at : Plan → ℕ → ℕ → Cell Ages → Bool
keeps_at plan block n blank = false
keeps_at plan block n (holds a) = keeps_among block (touches_in plan n) (classes_at plan n a)

-- Rule 10.4: whether such a node has a ceiling above 0.
abbrev pub charged_for : Plan → List (Cell Ages) → List ℕ → ℕ → Bool
charged_for plan table ceilings block =
    any false plan.nodes (λ n. ltb 0 (get_or ceilings n 0) && keeps_at plan block n (cell_at table n))

-- Rule 10.4: the difference between a miss and a hit, once for each such block.
unfoldable pub kept_charge : Plan → List (Cell Ages) → Figures → ℕ
kept_charge plan table figures =
    (figures.costs.miss - figures.costs.hit) * sum_of plan.blocks (λ block. cond (charged_for plan table figures.ceilings block) 1 0)

-- Rules 10.2 and 10.4: the high total of a table.
abbrev pub high_total : Plan → List (Cell Ages) → Figures → ℕ
high_total plan table figures = high_total_by plan.nodes (classes_at plan) table figures + kept_charge plan table figures

-- Rule 10.3: the low total of a table.
abbrev pub low_total : Plan → List (Cell Ages) → Figures → ℕ
low_total plan table figures = low_total_by plan.nodes (classes_at plan) table figures

-- Rules 10.2 and 10.3, of one class: what a touch of it counts. Nothing, where a node is not reached or makes no such touch.
abbrev pub class_cost : (ℕ → ℕ) → ℕ → ℕ
class_cost rate class = cond (eqb class unreached || eqb class none) 0 (rate class)
