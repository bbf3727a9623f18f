-- What touches are called and what is counted for them, at every node and column: by computing, for a node or a column that is not known.
use Prim.Native.Nat.{ℕ, ◌<◌}
use mathlib.Core.Bool.{Bool, true, false, ◌&&◌, ◌||◌}
use mathlib.Core.List.{List, [], ◌∷◌}
use mathlib.Core.Logic.{◌⊎◌, inl, inr}
use mathlib.Core.Path.{◌≡◌, refl, sym, ap, ◌∙◌}
use borrow.Author.Tests.{ltb-true, lt-ltb, eqb-true, eq-eqb}
use lib.Dec.{eqb, ltb}
use lib.ListN.{get_or}
use Rattle.lists.proofs.Choice.{and-true, true-and, or-true}
use Rattle.lists.proofs.Loops.{any_some, some-any}
use Rattle.cache.specs.Ages.{Ages}
use Rattle.flow.specs.Flow.{Cell, holds, cell_at}
use Rattle.ages.specs.Plan.{ColumnTouch, Plan, touches_in}
use Rattle.kept.specs.Since.{members}
use Rattle.kept.specs.Kept.{stays_by}
use Rattle.classes.specs.Class.{none, kept, Whole, whole_at, whole_after, class_of, classes_of, node_class}
use Rattle.costs.specs.Costs.{total_by, keeps_among, keeps_at, charged_for, kept_charge}
use Rattle.demands.specs.Paying.{Paying}

-- ---- rule 10.4

charged-by : (plan : Plan) (table : List (Cell Ages)) (ceilings : List ℕ) (column : ℕ) → charged_for plan table ceilings column ≡ true
    → (n : ℕ) × (n < plan.nodes) × ((0 < get_or ceilings n 0) × (keeps_at plan column n (cell_at table n) ≡ true))
charged-by plan table ceilings column e =
    let found = any_some plan.nodes (λ n. ltb 0 (get_or ceilings n 0) && keeps_at plan column n (cell_at table n)) e in
    let both = and-true (ltb 0 (get_or ceilings found.0 0)) (keeps_at plan column found.0 (cell_at table found.0)) found.2 in
    (found.0, found.1, (ltb-true 0 (get_or ceilings found.0 0) both.0, both.1))

charges : (plan : Plan) (table : List (Cell Ages)) (ceilings : List ℕ) (column n : ℕ) → n < plan.nodes → 0 < get_or ceilings n 0 → keeps_at plan column n (cell_at table n) ≡ true
    → charged_for plan table ceilings column ≡ true
charges plan table ceilings column n h above keeps =
    some-any plan.nodes (λ k. ltb 0 (get_or ceilings k 0) && keeps_at plan column k (cell_at table k)) n h
    (true-and (ltb 0 (get_or ceilings n 0)) (keeps_at plan column n (cell_at table n)) (lt-ltb 0 (get_or ceilings n 0) above) keeps)

left_or : (a b c : Bool) → a ≡ true → b ≡ true → ((a && b) || c) ≡ true
left_or a b c p q = rw (p, q)

keeps_first : (plan : Plan) (column n : ℕ) (a : Ages) (touch : ColumnTouch) (rest : List ColumnTouch) → touches_in plan n ≡ touch ∷ rest → touch.column ≡ column → node_class plan n 0 (holds a) ≡ 5
    → keeps_at plan column n (holds a) ≡ true
keeps_first plan column n a touch rest e at called =
    let class : class_of plan touch (whole_at plan n a) ≡ 5 = sym (ap (λ (ts : List ColumnTouch). get_or (classes_of plan ts (whole_at plan n a)) 0 none) e) ∙ called in
    ap (λ (ts : List ColumnTouch). keeps_among column ts (classes_of plan ts (whole_at plan n a))) e
    ∙ left_or (eqb touch.column column) (eqb (class_of plan touch (whole_at plan n a)) kept) _ (eq-eqb touch.column column at) (eq-eqb (class_of plan touch (whole_at plan n a)) kept class)

keeps_second : (plan : Plan) (column n : ℕ) (a : Ages) (touch other : ColumnTouch) (rest : List ColumnTouch) → touches_in plan n ≡ touch ∷ other ∷ rest → other.column ≡ column → node_class plan n 1 (holds a) ≡ 5
    → keeps_at plan column n (holds a) ≡ true
keeps_second plan column n a touch other rest e at called =
    let class : class_of plan other (whole_after plan touch (whole_at plan n a)) ≡ 5 = sym (ap (λ (ts : List ColumnTouch). get_or (classes_of plan ts (whole_at plan n a)) 1 none) e) ∙ called in
    ap (λ (ts : List ColumnTouch). keeps_among column ts (classes_of plan ts (whole_at plan n a))) e
    ∙ later (eqb touch.column column && eqb (class_of plan touch (whole_at plan n a)) kept) (left_or (eqb other.column column) (eqb (class_of plan other (whole_after plan touch (whole_at plan n a))) kept) _ (eq-eqb other.column column at) (eq-eqb (class_of plan other (whole_after plan touch (whole_at plan n a))) kept class))
  where
    later : (x : Bool) {y : Bool} → y ≡ true → (x || y) ≡ true
    later true q = refl
    later false q = q

-- One touch of a column that is called kept.
keeps_here : (plan : Plan) (column : ℕ) (touch : ColumnTouch) (whole : Whole) → (eqb touch.column column && eqb (class_of plan touch whole) kept) ≡ true → (touch.column ≡ column) × (class_of plan touch whole ≡ 5)
keeps_here plan column touch whole e =
    let both = and-true (eqb touch.column column) (eqb (class_of plan touch whole) kept) e in
    (eqb-true touch.column column both.0, eqb-true (class_of plan touch whole) kept both.1)

or-last : (x : Bool) → (x || false) ≡ true → x ≡ true
or-last true q = refl
or-last false q = q

keeps_one : (plan : Plan) (column n : ℕ) (a : Ages) (touch : ColumnTouch) → touches_in plan n ≡ touch ∷ [] → keeps_at plan column n (holds a) ≡ true → (touch.column ≡ column) × (node_class plan n 0 (holds a) ≡ 5)
keeps_one plan column n a touch e keeps =
    let among : keeps_among column (touch ∷ []) (classes_of plan (touch ∷ []) (whole_at plan n a)) ≡ true = sym (ap (λ (ts : List ColumnTouch). keeps_among column ts (classes_of plan ts (whole_at plan n a))) e) ∙ keeps in
    let here = keeps_here plan column touch (whole_at plan n a) (or-last (eqb touch.column column && eqb (class_of plan touch (whole_at plan n a)) kept) among) in
    (here.0, ap (λ (ts : List ColumnTouch). get_or (classes_of plan ts (whole_at plan n a)) 0 none) e ∙ here.1)

keeps_two : (plan : Plan) (column n : ℕ) (a : Ages) (touch other : ColumnTouch) → touches_in plan n ≡ touch ∷ other ∷ [] → keeps_at plan column n (holds a) ≡ true
    → ((touch.column ≡ column) × (node_class plan n 0 (holds a) ≡ 5)) ⊎ ((other.column ≡ column) × (node_class plan n 1 (holds a) ≡ 5))
keeps_two plan column n a touch other e keeps = go (eqb touch.column column && eqb (class_of plan touch (whole_at plan n a)) kept) refl
  where
    among : keeps_among column (touch ∷ other ∷ []) (classes_of plan (touch ∷ other ∷ []) (whole_at plan n a)) ≡ true
    among = sym (ap (λ (ts : List ColumnTouch). keeps_among column ts (classes_of plan ts (whole_at plan n a))) e) ∙ keeps

    go : (t : Bool) → (eqb touch.column column && eqb (class_of plan touch (whole_at plan n a)) kept) ≡ t
        → ((touch.column ≡ column) × (node_class plan n 0 (holds a) ≡ 5)) ⊎ ((other.column ≡ column) × (node_class plan n 1 (holds a) ≡ 5))
    go true q =
        let here = keeps_here plan column touch (whole_at plan n a) q in
        inl (here.0, ap (λ (ts : List ColumnTouch). get_or (classes_of plan ts (whole_at plan n a)) 0 none) e ∙ here.1)
    go false q =
        let later = or-true (eqb touch.column column && eqb (class_of plan touch (whole_at plan n a)) kept) ((eqb other.column column && eqb (class_of plan other (whole_after plan touch (whole_at plan n a))) kept) || false) among q in
        let there = keeps_here plan column other (whole_after plan touch (whole_at plan n a)) (or-last (eqb other.column column && eqb (class_of plan other (whole_after plan touch (whole_at plan n a))) kept) later) in
        inr (there.0, ap (λ (ts : List ColumnTouch). get_or (classes_of plan ts (whole_at plan n a)) 1 none) e ∙ there.1)

pub paying : Paying
unfolding total_by kept_charge stays_by members
paying =
    record {
      class_is = λ plan touch whole. refl;
      stays_is = λ plan column since. refl;
      rates = λ costs. refl;
      high_sum = λ plan table figures. refl;
      charged-by = charged-by;
      charges = charges;
      keeps_unmarked = λ plan column n. refl;
      keeps_none = λ plan column n a e. rw e;
      keeps_first = keeps_first;
      keeps_second = keeps_second;
      keeps_one = keeps_one;
      keeps_two = keeps_two;
      low_sum = λ plan table figures. refl;
      sum_none = λ f. refl;
      sum_next = λ n f. refl;
      pays_walk = λ chart h m ts c. refl;
      pays_last = λ chart h m n c. refl;
      pays_on = λ chart h m n t ts c. refl;
      pays_nothing = λ chart h m c. refl;
      pays_touch = λ chart h m c touch others. refl;
    }
