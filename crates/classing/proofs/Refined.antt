-- The classes of a node: by its ages alone, refined by what is told of the sets of the blocks whose touches are unsure.
use Prim.Native.Nat.{ℕ, zero, suc, ◌+◌, ◌*◌, ◌/◌, ◌%◌, ◌≤◌, ◌<◌}
use mathlib.Core.Bool.{Bool, true, false, cond, not, ◌&&◌, true≢false}
use mathlib.Core.List.{List, [], ◌∷◌}
use mathlib.Core.Path.{◌≡◌, refl, sym, ap, ◌∙◌}
use native.Mathlib.Omega.{arith}
use lib.Dec.{ltb, eqb}
use lib.ListN.{get_or, length}
use Rattle.lists.specs.Lists.{written}
use Rattle.lists.specs.Loops.{patch}
use Rattle.lists.proofs.Joined.{written-written}
use Rattle.lists.proofs.Listed.{length-list_of, list_of-same}
use Rattle.lists.proofs.Loops.{length-patch, patch-written, patch-same, patch-in0}
use Rattle.chart.specs.Geometry.{most_touches}
use Rattle.cache.specs.Ages.{Ages}
use Rattle.flow.specs.Flow.{Cell, blank, holds, cell_at}
use Rattle.ages.specs.Plan.{ColumnTouch, Plan, touches_in}
use Rattle.classes.specs.Class.{hit, miss, unsure, none, kept, class_by, whole_at, classes_of, node_class, table_classes}
use Rattle.bits.specs.Bits.{is_set}
use Rattle.keeping.specs.Told.{StaysTold}
use Rattle.bits.proofs.Bits.{set-none}
use Rattle.classing.specs.Both.{age_classes, node_age_class, age_table, refined, AllWanted}

-- Of one touch: what is told counts only where it is unsure.
class-refined : (limit must may : ℕ) (stays : Bool) (told : ℕ) → (class_by limit must may false ≡ unsure → told ≡ cond stays 1 0) → class_by limit must may stays ≡ refined (class_by limit must may false) told
unfolding class_by
class-refined limit must may stays told = go (ltb must limit) (eqb may limit) stays
  where
    go : (young old s : Bool) → (cond young hit (cond old miss unsure) ≡ unsure → told ≡ cond s 1 0) → cond young hit (cond old miss (cond s kept unsure)) ≡ refined (cond young hit (cond old miss unsure)) told
    go true old s e = refl
    go false true s e = refl
    go false false true e = rw (e refl)
    go false false false e = rw (e refl)

module _ (plan : Plan) (table : List (Cell Ages)) (wanted : ℕ) (gathered : AllWanted plan table wanted) where
  abbrev age_at : ℕ → ℕ
  age_at i = node_age_class plan (i / most_touches) (i % most_touches) (cell_at table (i / most_touches))

  abbrev class_at : ℕ → ℕ
  class_at i = node_class plan (i / most_touches) (i % most_touches) (cell_at table (i / most_touches))

  module _ (stays : List ℕ) (told : StaysTold plan wanted stays) where
    first-refined : (n : ℕ) → n < plan.nodes → node_class plan n 0 (cell_at table n) ≡ refined (node_age_class plan n 0 (cell_at table n)) (get_or stays (most_touches * n) 0)
    first-refined n inside = go (cell_at table n) refl
      where
        touched : (a : Ages) → cell_at table n ≡ holds a → (touches : List ColumnTouch) → touches_in plan n ≡ touches
            → get_or (classes_of plan touches (whole_at plan n a)) 0 none ≡ refined (get_or (age_classes plan touches a) 0 none) (get_or stays (most_touches * n) 0)
        touched a c [] e = refl
        touched a c (touch ∷ rest) e =
            class-refined _ _ _ _ (get_or stays (most_touches * n) 0) (λ u. told.first n inside touch rest e (gathered.first n inside touch rest e ((rw (c, e)) ∙ u)))

        go : (cell : Cell Ages) → cell_at table n ≡ cell → node_class plan n 0 cell ≡ refined (node_age_class plan n 0 cell) (get_or stays (most_touches * n) 0)
        go blank c = refl
        go (holds a) c = touched a c (touches_in plan n) refl

    second-refined : (n : ℕ) → n < plan.nodes → node_class plan n 1 (cell_at table n) ≡ refined (node_age_class plan n 1 (cell_at table n)) (get_or stays (most_touches * n + 1) 0)
    second-refined n inside = go (cell_at table n) refl
      where
        touched : (a : Ages) → cell_at table n ≡ holds a → (touches : List ColumnTouch) → touches_in plan n ≡ touches
            → get_or (classes_of plan touches (whole_at plan n a)) 1 none ≡ refined (get_or (age_classes plan touches a) 1 none) (get_or stays (most_touches * n + 1) 0)
        touched a c [] e = refl
        touched a c (touch ∷ []) e = refl
        touched a c (touch ∷ (other ∷ rest)) e =
            class-refined _ _ _ _ (get_or stays (most_touches * n + 1) 0) (λ u. told.second n inside touch other rest e (gathered.second n inside touch other rest e ((rw (c, e)) ∙ u)))

        go : (cell : Cell Ages) → cell_at table n ≡ cell → node_class plan n 1 cell ≡ refined (node_age_class plan n 1 cell) (get_or stays (most_touches * n + 1) 0)
        go blank c = refl
        go (holds a) c = touched a c (touches_in plan n) refl

    -- At each place of the list.
    place-refined : (i : ℕ) → i < most_touches * plan.nodes → class_at i ≡ refined (age_at i) (get_or stays i 0)
    place-refined i h = go (i % most_touches) refl
      where
        inside : i / most_touches < plan.nodes
        inside = omega arith

        go : (k : ℕ) → i % most_touches ≡ k
            → node_class plan (i / most_touches) k (cell_at table (i / most_touches)) ≡ refined (node_age_class plan (i / most_touches) k (cell_at table (i / most_touches))) (get_or stays i 0)
        go zero e =
            let place : most_touches * (i / most_touches) ≡ i = omega arith in
            first-refined (i / most_touches) inside ∙ ap (λ (j : ℕ). refined (node_age_class plan (i / most_touches) 0 (cell_at table (i / most_touches))) (get_or stays j 0)) place
        go (suc zero) e =
            let place : most_touches * (i / most_touches) + 1 ≡ i = omega arith in
            second-refined (i / most_touches) inside ∙ ap (λ (j : ℕ). refined (node_age_class plan (i / most_touches) 1 (cell_at table (i / most_touches))) (get_or stays j 0)) place
        go (suc (suc k)) e = absurd (omega arith)

    -- Classes by ages, written and then refined, are the classes.
    pub all-refined : (before by-ages : List ℕ) (count : ℕ) → count ≡ most_touches * plan.nodes → most_touches * plan.nodes ≤ length before → by-ages ≡ written (age_table plan table) before
        → patch by-ages 0 count (λ i. refined (get_or by-ages i 0) (get_or stays i 0)) ≡ written (table_classes plan table) before
    all-refined before by-ages count same room e =
        let size : ℕ = most_touches * plan.nodes in
        let aged : by-ages ≡ patch before 0 size age_at = e ∙ sym (patch-written before size age_at room) in
        let long : size ≤ length by-ages = rw (aged, length-patch before 0 size age_at) room in
        ap (λ (k : ℕ). patch by-ages 0 k (λ i. refined (get_or by-ages i 0) (get_or stays i 0))) same
        ∙ patch-same by-ages 0 size (λ i. refined (get_or by-ages i 0) (get_or stays i 0)) class_at (λ i h. ap (λ (v : ℕ). refined v (get_or stays i 0)) (ap (λ (l : List ℕ). get_or l i 0) aged ∙ patch-in0 before size age_at i room h) ∙ sym (place-refined i h))
        ∙ patch-written by-ages size class_at long
        ∙ ap (written (table_classes plan table)) e
        ∙ written-written (table_classes plan table) (age_table plan table) before (length-list_of size class_at ∙ sym (length-list_of size age_at))

-- Where none is wanted, the classes by ages are the classes.
module _ (plan : Plan) (table : List (Cell Ages)) (wanted : ℕ) (gathered : AllWanted plan table wanted) (none : wanted ≡ 0) where
  none_told : StaysTold plan wanted []
  none_told =
      record {
        first = λ n h touch rest e asked. absurd (unasked touch.column asked);
        second = λ n h touch other rest e asked. absurd (unasked other.column asked);
      }
    where
      unasked : (column : ℕ) → is_set wanted column ≡ true → ⊥
      unasked column asked = true≢false (sym asked ∙ ap (λ (w : ℕ). is_set w column) none ∙ set-none column)

  untold : (class : ℕ) → refined class 0 ≡ class
  untold class = go (eqb class unsure)
    where
      go : (b : Bool) → cond (b && not (eqb 0 0)) kept class ≡ class
      go true = refl
      go false = refl

  pub none-refined : (before : List ℕ) → written (age_table plan table) before ≡ written (table_classes plan table) before
  none-refined before =
      ap (λ (new : List ℕ). written new before)
      (list_of-same (most_touches * plan.nodes) (λ i. node_age_class plan (i / most_touches) (i % most_touches) (cell_at table (i / most_touches))) (λ i. node_class plan (i / most_touches) (i % most_touches) (cell_at table (i / most_touches)))
      (λ i h. sym (place-refined plan table wanted gathered [] none_told i h ∙ untold (node_age_class plan (i / most_touches) (i % most_touches) (cell_at table (i / most_touches))))))
