-- What inner functions promise of a node's two classes: first by its ages alone, where what is kept still counts as unsure, and then by its sets too.
-- Nothing here is a rule of the tool: `node_class` of the crate `classes` has rules 8.1 and 8.2, and laws lead there.
use Rattle.std.specs.Prelude.{ℕ, zero, suc, ◌+◌, ◌*◌, ◌/◌, ◌%◌, ◌^◌, ◌<◌, true, false, cond, not, ◌&&◌, List, ◌∷◌, ◌≡◌, get_or, eqb, None, Option, Some}
use Rattle.std.specs.Int.Bits.{bit_or}
use Rattle.lists.specs.Lists.{list_of}
use Rattle.bits.specs.Bits.{is_set}
use Rattle.chart.specs.Geometry.{most_blocks, most_touches}
use Rattle.cache.specs.Ages.{Ages, age_of, must_grown, may_grown}
use Rattle.flow.specs.Flow.{Cell, blank, holds, cell_at}
use Rattle.ages.specs.Plan.{ColumnTouch, Plan, columns_of, touches_in, after_touch}
use Rattle.plan.specs.Listed.{node_in}
use Rattle.classes.specs.Class.{unreached, unsure, none, kept, class_by, classes_by}
use Rattle.classing.specs.declared.Pair.{Pair}
use Rattle.classing.specs.declared.Classes.{Classes}
use Rattle.plan.specs.declared.ColumnTouches.{ColumnTouches}

-- The ages at a place of two lists.
abbrev pub pair_at : List ℕ → List ℕ → ℕ → Pair
pair_at must may place = record { must = get_or must place 0; may = get_or may place 0 }

-- The class of a touch of column `upper` after one of another column, `lower`, by what stands in a list of columns, and by the ages of both before.
abbrev pub class_after : List ℕ → ℕ → ℕ → Pair → Pair → ℕ
class_after columns lower upper first second =
    class_by (get_or columns (most_blocks + upper) 0)
    (cond (eqb (get_or columns upper 0) (get_or columns lower 0)) (must_grown first.must second.must) second.must)
    (cond (eqb (get_or columns upper 0) (get_or columns lower 0)) (may_grown (get_or columns (2 * most_blocks + upper) 0) first.may second.may) second.may)
    false

-- The class of a touch by the ages alone.
abbrev pub age_class_of : Plan → ColumnTouch → Ages → ℕ
age_class_of plan touch a =
    class_by ((columns_of plan).must_limit touch.column) (age_of a.must touch.column) (age_of a.may touch.column) false

abbrev pub age_classes : Plan → List ColumnTouch → Ages → List ℕ
age_classes plan touches a = classes_by (age_class_of plan) (after_touch plan) touches a

abbrev pub node_age_class : Plan → ℕ → ℕ → Cell Ages → ℕ
node_age_class plan n k blank = unreached
node_age_class plan n k (holds a) = get_or (age_classes plan (touches_in plan n) a) k none

-- Both classes of a node by its ages alone.
abbrev pub both_by_ages : Plan → ℕ → Cell Ages → Classes
both_by_ages plan n cell = record { first = node_age_class plan n 0 cell; second = node_age_class plan n 1 cell }

-- Those of all nodes, node by node and the first touch's first.
abbrev pub age_table : Plan → List (Cell Ages) → List ℕ
age_table plan table =
    list_of (most_touches * plan.nodes) (λ i. node_age_class plan (i / most_touches) (i % most_touches) (cell_at table (i / most_touches)))

-- A bit for each column that a touch of class unsure has: of one touch, of a node's two, and of the nodes before n, where `classes` has the classes.
abbrev pub unsure_bit : ℕ → ℕ → ℕ
unsure_bit class column = cond (eqb class unsure) (2 ^ column) 0

abbrev pub wanted_by : Option ColumnTouches → ℕ → ℕ → ℕ
wanted_by None first second = 0
wanted_by (Some reference) first second = bit_or (unsure_bit first reference.lower) (unsure_bit second reference.upper)

unfoldable pub wanted_to : List ℕ → List ℕ → ℕ → ℕ
wanted_to plan classes zero = 0
wanted_to plan classes (suc n) =
    bit_or (wanted_to plan classes n) (wanted_by (node_in plan n).what (get_or classes (most_touches * n) 0) (get_or classes (most_touches * n + 1) 0))

-- A class by the ages alone, where it is told whether few blocks are in the set: 0 for no.
abbrev pub refined : ℕ → ℕ → ℕ
refined class stays = cond (eqb class unsure && not (eqb stays 0)) kept class

-- The column of each touch that is unsure by its ages is wanted.
pub record AllWanted (plan : Plan) (table : List (Cell Ages)) (wanted : ℕ) : Type 0 where
  pub first : (n : ℕ)
      → n < plan.nodes
      → (touch : ColumnTouch) (rest : List ColumnTouch)
      → touches_in plan n ≡ touch ∷ rest
      → node_age_class plan n 0 (cell_at table n) ≡ unsure
      → is_set wanted touch.column ≡ true
  pub second : (n : ℕ)
      → n < plan.nodes
      → (touch other : ColumnTouch) (rest : List ColumnTouch)
      → touches_in plan n ≡ touch ∷ other ∷ rest
      → node_age_class plan n 1 (cell_at table n) ≡ unsure
      → is_set wanted other.column ≡ true
