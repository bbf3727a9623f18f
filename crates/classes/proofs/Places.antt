-- Where the two classes of a node stand in the list of all classes.
use Prim.Native.Nat.{ℕ, ◌+◌, ◌*◌, ◌/◌, ◌%◌, ◌<◌}
use mathlib.Core.List.{List}
use mathlib.Core.Path.{◌≡◌, ◌∙◌}
use native.Mathlib.Omega.{arith}
use lib.ListN.{get_or, length}
use Rattle.lists.proofs.Listed.{length-list_of, get_or-list_of}
use Rattle.chart.specs.Geometry.{most_touches}
use Rattle.cache.specs.Ages.{Ages}
use Rattle.flow.specs.Flow.{Cell, cell_at}
use Rattle.ages.specs.Plan.{Plan}
use Rattle.classes.specs.Class.{node_class, table_classes}

pub first-place : (n : ℕ) → (most_touches * n / most_touches ≡ n) × (most_touches * n % most_touches ≡ 0)
first-place n = (omega arith, omega arith)

pub second-place : (n : ℕ) → ((most_touches * n + 1) / most_touches ≡ n) × ((most_touches * n + 1) % most_touches ≡ 1)
second-place n = (omega arith, omega arith)

module _ (plan : Plan) (table : List (Cell Ages)) where
  abbrev class : ℕ → ℕ → ℕ
  class n k = node_class plan n k (cell_at table n)

  pub classes_long : length (table_classes plan table) ≡ most_touches * plan.nodes
  classes_long = length-list_of (most_touches * plan.nodes) (λ i. class (i / most_touches) (i % most_touches))

  pub first_listed : (n : ℕ) → n < plan.nodes → get_or (table_classes plan table) (most_touches * n) 0 ≡ node_class plan n 0 (cell_at table n)
  first_listed n h =
      get_or-list_of (most_touches * plan.nodes) (λ i. class (i / most_touches) (i % most_touches)) 0 (most_touches * n) (omega arith)
      ∙ (λ i. class ((first-place n).0 i) ((first-place n).1 i))

  pub second_listed : (n : ℕ) → n < plan.nodes → get_or (table_classes plan table) (most_touches * n + 1) 0 ≡ node_class plan n 1 (cell_at table n)
  second_listed n h =
      get_or-list_of (most_touches * plan.nodes) (λ i. class (i / most_touches) (i % most_touches)) 0 (most_touches * n + 1) (omega arith)
      ∙ (λ i. class ((second-place n).0 i) ((second-place n).1 i))
