-- The classes of touches and of nodes, and what they go by. Rules 8.1, 8.2 and 12.2; rules 6.3, 6.4, 16.1 and 16.3 come in by the definitions of `ages` and
-- `kept`.
-- A choice: A is here the most that the must age of a column can be, also for a miss; for a touch that is kept see `stays_by` of the crate `kept`.
use Rattle.std.specs.Prelude.{ℕ, ◌*◌, ◌/◌, ◌%◌, Bool, true, false, ◌⊎◌, ◌≡◌, List, [], ◌∷◌, get_or, ltb, eqb}
use Rattle.lists.specs.Choice.{◌⇒◌, first_case}
use Rattle.lists.specs.Lists.{list_of}
use Rattle.chart.specs.Geometry.{most_touches}
use Rattle.cache.specs.Ages.{Ages, age_of}
use Rattle.flow.specs.Flow.{Cell, blank, holds, cell_at}
use Rattle.ages.specs.Plan.{ColumnTouch, Plan, columns_of, touches_in, after_touch}
use Rattle.kept.specs.Since.{Since}
use Rattle.kept.specs.Kept.{after_touch_of, since_at, stays_by}

-- Rule 8.1: the numbers of the classes.
abbrev pub unreached : ℕ
unreached = 0

abbrev pub hit : ℕ
hit = 1

abbrev pub miss : ℕ
miss = 2

abbrev pub unsure : ℕ
unsure = 3

abbrev pub none : ℕ
none = 4

abbrev pub kept : ℕ
kept = 5

-- Rule 8.1: the class of a touch, by the must limit, by the block's must and may age, and by whether few blocks are in its set.
unfoldable pub class_by : ℕ → ℕ → ℕ → Bool → ℕ
class_by limit must may stays =
    first_case (λ class. class)
    ((ltb must limit ⇒ hit)
    ∷ (eqb may limit ⇒ miss)
    ∷ (stays ⇒ kept)
    ∷ [])
    unsure

-- Rule 8.2: what a class goes by: the ages, and what is held of each block (rule 16.1).
pub record Whole : Type 0 where
  pub ages : Ages
  pub since : ℕ → Since

-- Rule 8.2: both on arrival at node n, where a table has these ages. The sets are the chart's alone.
abbrev pub whole_at : Plan → ℕ → Ages → Whole
whole_at plan n a = record { ages = a; since = since_at plan n }

-- Rules 6.3, 6.4 and 16.3: both after a touch.
abbrev pub whole_after : Plan → ColumnTouch → Whole → Whole
whole_after plan touch whole =
    record {
      ages = after_touch plan touch whole.ages;
      since = λ block. after_touch_of plan block touch (whole.since block);
    }

-- Rule 8.2: the class of one touch, read from the state just before it.
abbrev pub class_of : Plan → ColumnTouch → Whole → ℕ
class_of plan touch whole =
    class_by ((columns_of plan).must_limit touch.column)
    (age_of whole.ages.must touch.column)
    (age_of whole.ages.may touch.column)
    (stays_by plan touch.column (whole.since touch.column))

-- Rule 8.2: the classes of touches in turn, each from the state just before it, for any kind of touch and state.
abbrev pub classes_by : {E S : Type 0} → (E → S → ℕ) → (E → S → S) → List E → S → List ℕ
classes_by class_at touched_by [] a = []
classes_by class_at touched_by (touch ∷ touches) a = class_at touch a ∷ classes_by class_at touched_by touches (touched_by touch a)

abbrev pub classes_of : Plan → List ColumnTouch → Whole → List ℕ
classes_of plan touches whole = classes_by (class_of plan) (whole_after plan) touches whole

-- Rule 8.1: class k of a node, from 0, that of its touch k if it has a mark and so many touches.
abbrev pub node_class : Plan → ℕ → ℕ → Cell Ages → ℕ
node_class plan n k blank = unreached
node_class plan n k (holds a) = get_or (classes_of plan (touches_in plan n) (whole_at plan n a)) k none

-- Rules 8.1 and 12.2: the classes of all nodes, as many of each as a node can have touches, node by node and the first touch's first.
abbrev pub table_classes : Plan → List (Cell Ages) → List ℕ
table_classes plan table =
    list_of (most_touches * plan.nodes) (λ i. node_class plan (i / most_touches) (i % most_touches) (cell_at table (i / most_touches)))

-- What is called a hit is found, and what is called a miss is not.
pub record CalledRight (class : ℕ) (found : Bool) : Type 0 where
  pub hit_hits : class ≡ hit → found ≡ true
  pub miss_misses : class ≡ miss → found ≡ false

-- Each of these classes tells what is found: it is a hit or a miss.
abbrev pub AllTold : List ℕ → Type 0
AllTold [] = Unit {0}
AllTold (class ∷ classes) = ((class ≡ hit) ⊎ (class ≡ miss)) × AllTold classes
