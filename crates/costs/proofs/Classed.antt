-- A node with at most two touches counts by its two classes.
use mathlib.Core.List.{List, [], ◌∷◌}
use mathlib.Core.Path.{◌≡◌}
use Prim.Native.Nat.{ℕ, ◌+◌, ◌≤◌}
use native.Mathlib.Omega.{arith}
use borrow.Author.Tests.{ne_eqb}
use lib.ListN.{get_or, length}
use Rattle.cache.specs.Ages.{Ages, age_of}
use Rattle.flow.specs.Flow.{Cell, blank, holds}
use Rattle.ages.specs.Plan.{ColumnTouch, Plan, columns_of, touches_in}
use Rattle.kept.specs.Kept.{stays_by}
use Rattle.classes.specs.Class.{unreached, none, Whole, whole_at, whole_after, class_of, classes_of, node_class}
use Rattle.classes.proofs.Calling.{class-counts}
use Rattle.costs.specs.Costs.{rates_of, visit_cost, classes_at, class_cost}

module _ (rate : ℕ → ℕ) where
  -- The class of a touch is none of those that count nothing.
  touch-cost : (plan : Plan) (touch : ColumnTouch) (whole : Whole) → rate (class_of plan touch whole) ≡ class_cost rate (class_of plan touch whole)
  touch-cost plan touch whole =
      let counts = class-counts ((columns_of plan).must_limit touch.column) (age_of whole.ages.must touch.column) (age_of whole.ages.may touch.column) (stays_by plan touch.column (whole.since touch.column)) in
      rw (ne_eqb (class_of plan touch whole) unreached counts.0, ne_eqb (class_of plan touch whole) none counts.1)

  touches-cost : (plan : Plan) (touches : List ColumnTouch) → length touches ≤ 2 → (whole : Whole)
      → rates_of rate (classes_of plan touches whole) ≡ class_cost rate (get_or (classes_of plan touches whole) 0 none) + class_cost rate (get_or (classes_of plan touches whole) 1 none)
  touches-cost plan [] few whole = omega arith
  touches-cost plan (touch ∷ []) few whole = omega (arith, touch-cost plan touch whole)
  touches-cost plan (touch ∷ (other ∷ [])) few whole = omega (arith, touch-cost plan touch whole, touch-cost plan other (whole_after plan touch whole))
  touches-cost plan (touch ∷ (other ∷ (third ∷ rest))) few whole = absurd (omega arith)

  pub node-cost : (plan : Plan) (n : ℕ) → length (touches_in plan n) ≤ 2 → (cell : Cell Ages)
      → visit_cost (classes_at plan n) rate cell ≡ class_cost rate (node_class plan n 0 cell) + class_cost rate (node_class plan n 1 cell)
  node-cost plan n few blank = omega arith
  node-cost plan n few (holds a) = touches-cost plan (touches_in plan n) few (whole_at plan n a)
