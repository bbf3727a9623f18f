-- The columns of all touches that are unsure by their ages are among those that are wanted.
use Rattle.std.specs.Prelude.{None, Option, Some}
use Prim.Native.Nat.{ℕ, zero, suc, ◌+◌, ◌*◌, ◌/◌, ◌%◌, ◌^◌, ◌≤◌, ◌<◌}
use mathlib.Core.Bool.{Bool, true, false, cond, ◌||◌}
use mathlib.Core.List.{List, ◌∷◌}
use mathlib.Core.Logic.{⊎_elim}
use mathlib.Core.Path.{◌≡◌, refl, sym, ap, subst, ◌∙◌}
use native.Mathlib.Nat.{eq-or-lt_of_le, le_of_suc-le-suc}
use native.Mathlib.Omega.{arith}
use native.Mathlib.Numerals.{add-one}
use borrow.Author.Tests.{eq-eqb, ne_eqb}
use lib.Bits.{bit_or}
use lib.ListN.{get_or, length}
use Rattle.lists.specs.Lists.{written}
use Rattle.lists.proofs.Loops.{patch-in0, patch-written}
use Rattle.chart.specs.Geometry.{most_touches}
use Rattle.cache.specs.Ages.{Ages}
use Rattle.flow.specs.Flow.{Cell, cell_at}
use Rattle.ages.specs.Plan.{ColumnTouch, Plan}
use Rattle.plan.specs.Listed.{nodes_in, node_in, touches_by, plan_in}
use Rattle.plan.proofs.Holding.{touches-held}
use Rattle.classes.specs.Class.{unsure}
use Rattle.classes.proofs.Places.{first-place, second-place}
use Rattle.bits.specs.Bits.{is_set}
use Rattle.bits.proofs.Bits.{set-or, set-one}
use Rattle.keeping.proofs.Told.{first-column, second-column}
use Rattle.classing.specs.Both.{node_age_class, age_table, unsure_bit, wanted_by, wanted_to, AllWanted}
use Rattle.plan.specs.declared.ColumnTouches.{ColumnTouches}

or_left : (a b : Bool) → a ≡ true → (a || b) ≡ true
or_left a b e = rw e

or_right : (a b : Bool) → b ≡ true → (a || b) ≡ true
or_right true b e = refl
or_right false b e = e

set-left : (a b j : ℕ) → is_set a j ≡ true → is_set (bit_or a b) j ≡ true
set-left a b j e = set-or a b j ∙ or_left (is_set a j) (is_set b j) e

set-right : (a b j : ℕ) → is_set b j ≡ true → is_set (bit_or a b) j ≡ true
set-right a b j e = set-or a b j ∙ or_right (is_set a j) (is_set b j) e

unsure-set : (class column : ℕ) → class ≡ unsure → is_set (unsure_bit class column) column ≡ true
unsure-set class column e =
    ap (λ (b : Bool). is_set (cond b (2 ^ column) 0) column) (eq-eqb class unsure e) ∙ set-one column column ∙ eq-eqb column column refl

lower-wanted : (planned : Option ColumnTouches) (touch : ColumnTouch) (rest : List ColumnTouch) → touches_by planned ≡ touch ∷ rest → (first second : ℕ) → first ≡ unsure
    → is_set (wanted_by planned first second) touch.column ≡ true
lower-wanted None touch rest e first second u = absurd (let z : ◌≡◌ {A = ℕ} 0 1 = cc in omega arith)
lower-wanted (Some reference) touch rest e first second u =
    subst (λ (column : ℕ). is_set (wanted_by (Some reference) first second) column ≡ true) (first-column reference touch rest e)
    (set-left (unsure_bit first reference.lower) (unsure_bit second reference.upper) reference.lower (unsure-set first reference.lower u))

upper-wanted : (planned : Option ColumnTouches) (touch other : ColumnTouch) (rest : List ColumnTouch) → touches_by planned ≡ touch ∷ other ∷ rest → (first second : ℕ) → second ≡ unsure
    → is_set (wanted_by planned first second) other.column ≡ true
upper-wanted None touch other rest e first second u = absurd (let z : ◌≡◌ {A = ℕ} 0 1 = cc in omega arith)
upper-wanted (Some reference) touch other rest e first second u =
    subst (λ (column : ℕ). is_set (wanted_by (Some reference) first second) column ≡ true) (second-column reference touch other rest e).0
    (set-right (unsure_bit first reference.lower) (unsure_bit second reference.upper) reference.upper (unsure-set second reference.upper u))

pub none-wanted : (planned : Option ColumnTouches) (first second : ℕ) → (first ≡ unsure → ⊥) → (second ≡ unsure → ⊥) → 0 ≡ wanted_by planned first second
none-wanted None first second f s = refl
none-wanted (Some reference) first second f s = rw (ne_eqb first unsure f, ne_eqb second unsure s)

-- Of no node, and of one more.
pub none_yet : (plan classes : List ℕ) → 0 ≡ wanted_to plan classes 0
unfolding wanted_to
none_yet plan classes = refl

pub wanted-turn : (plan classes : List ℕ) (n wanted here : ℕ) → wanted ≡ wanted_to plan classes n → here ≡ wanted_by (node_in plan n).what (get_or classes (most_touches * n) 0) (get_or classes (most_touches * n + 1) 0)
    → bit_or wanted here ≡ wanted_to plan classes (n + 1)
unfolding wanted_to
wanted-turn plan classes n wanted here e d = rw (add-one, e, d)

module _ (plan classes : List ℕ) (j : ℕ) where
  -- What one node wants is among what all want.
  wanted-in : (count n : ℕ) → n < count → is_set (wanted_by (node_in plan n).what (get_or classes (most_touches * n) 0) (get_or classes (most_touches * n + 1) 0)) j ≡ true → is_set (wanted_to plan classes count) j ≡ true
  unfolding wanted_to
  wanted-in zero n h e = absurd (omega arith)
  wanted-in (suc count) n h e = ⊎_elim last (earlier (λ l. wanted-in count n l e)) (eq-or-lt_of_le (le_of_suc-le-suc h))
    where
      here : ℕ → ℕ
      here m = wanted_by (node_in plan m).what (get_or classes (most_touches * m) 0) (get_or classes (most_touches * m + 1) 0)

      last : n ≡ count → is_set (bit_or (wanted_to plan classes count) (here count)) j ≡ true
      last q = set-right (wanted_to plan classes count) (here count) j (subst (λ (m : ℕ). is_set (here m) j ≡ true) q e)

      earlier : (n < count → is_set (wanted_to plan classes count) j ≡ true) → n < count → is_set (bit_or (wanted_to plan classes count) (here count)) j ≡ true
      earlier rest l = set-left (wanted_to plan classes count) (here count) j (rest l)

module _ (columns plan : List ℕ) (table : List (Cell Ages)) (before classes : List ℕ) (room : most_touches * nodes_in plan ≤ length before) (by-ages : classes ≡ written (age_table (plan_in columns plan) table) before) where
  abbrev held : Plan
  held = plan_in columns plan

  class-at : (i : ℕ) → i < most_touches * nodes_in plan → get_or classes i 0 ≡ node_age_class held (i / most_touches) (i % most_touches) (cell_at table (i / most_touches))
  class-at i h =
      let f : ℕ → ℕ = λ i. node_age_class held (i / most_touches) (i % most_touches) (cell_at table (i / most_touches)) in
      ap (λ (l : List ℕ). get_or l i 0) (by-ages ∙ sym (patch-written before (most_touches * nodes_in plan) f room)) ∙ patch-in0 before (most_touches * nodes_in plan) f i room h

  first-is : (n : ℕ) → n < nodes_in plan → get_or classes (most_touches * n) 0 ≡ node_age_class held n 0 (cell_at table n)
  first-is n h = class-at (most_touches * n) (omega arith) ∙ (λ i. node_age_class held ((first-place n).0 i) ((first-place n).1 i) (cell_at table ((first-place n).0 i)))

  second_is : (n : ℕ) → n < nodes_in plan → get_or classes (most_touches * n + 1) 0 ≡ node_age_class held n 1 (cell_at table n)
  second_is n h = class-at (most_touches * n + 1) (omega arith) ∙ (λ i. node_age_class held ((second-place n).0 i) ((second-place n).1 i) (cell_at table ((second-place n).0 i)))

  pub gathered : AllWanted (plan_in columns plan) table (wanted_to plan classes (nodes_in plan))
  gathered =
      record {
        first = λ n h touch rest e u.
            wanted-in plan classes touch.column (nodes_in plan) n h (lower-wanted (node_in plan n).what touch rest (sym (touches-held columns plan n h) ∙ e) (get_or classes (most_touches * n) 0) (get_or classes (most_touches * n + 1) 0) (first-is n h ∙ u));
        second = λ n h touch other rest e u.
            wanted-in plan classes other.column (nodes_in plan) n h (upper-wanted (node_in plan n).what touch other rest (sym (touches-held columns plan n h) ∙ e) (get_or classes (most_touches * n) 0) (get_or classes (most_touches * n + 1) 0) (second_is n h ∙ u));
      }
