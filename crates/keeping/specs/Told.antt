-- What is told of the touches of each node whose columns are wanted: whether they would be kept. `wanted` has a bit for each column. Rules 8.1, 8.2 and 16.8.
-- A choice: what stands at the place of any other touch, and of one that is not made, is free.
use Rattle.std.specs.Prelude.{ℕ, ◌+◌, ◌*◌, ◌<◌, true, cond, List, ◌∷◌, ◌≡◌, get_or}
use Rattle.chart.specs.Geometry.{most_touches}
use Rattle.ages.specs.Plan.{ColumnTouch, Plan, touches_in}
use Rattle.kept.specs.Kept.{after_touch_of, since_at, stays_by}
use Rattle.bits.specs.Bits.{is_set}

-- Rules 8.1 and 8.2: two places for each node, with 1 where few enough blocks are in the set of the touch's block just before it, and 0 where not.
pub record StaysTold (plan : Plan) (wanted : ℕ) (stays : List ℕ) : Type 0 where
  -- the first touch goes by the state on arrival
  pub first : (n : ℕ)
      → n < plan.nodes
      → (touch : ColumnTouch) (rest : List ColumnTouch)
      → touches_in plan n ≡ touch ∷ rest
      → is_set wanted touch.column ≡ true
      → get_or stays (most_touches * n) 0 ≡ cond (stays_by plan touch.column (since_at plan n touch.column)) 1 0
  -- the second by the state after the first
  pub second : (n : ℕ)
      → n < plan.nodes
      → (touch other : ColumnTouch) (rest : List ColumnTouch)
      → touches_in plan n ≡ touch ∷ other ∷ rest
      → is_set wanted other.column ≡ true
      → get_or stays (most_touches * n + 1) 0 ≡ cond (stays_by plan other.column (after_touch_of plan other.column touch (since_at plan n other.column))) 1 0
