-- The classes of a node by its ages alone, by what stands in the lists of its plan and its table.
use Rattle.std.specs.Prelude.{None, Option, Some}
use Prim.Native.Nat.{ℕ, ◌+◌, ◌*◌, ◌<◌}
use mathlib.Core.Bool.{Bool, false, cond}
use mathlib.Core.List.{List, [], ◌∷◌}
use mathlib.Core.Path.{◌≡◌, sym, ap, subst, ◌∙◌}
use borrow.Author.Tests.{eq-eqb, ne_eqb}
use lib.Dec.{eqb}
use lib.ListN.{get_or}
use Rattle.lists.proofs.Listed.{get_or-list_of}
use Rattle.chart.specs.Geometry.{most_blocks}
use Rattle.cache.specs.Ages.{age_of, must_grown, may_grown, must_after, may_after}
use Rattle.cache.proofs.Touching.{touch-must, touch-may}
use Rattle.flow.specs.Flow.{cell_at}
use Rattle.ages.specs.Plan.{ColumnTouch, Plan, columns_of, after_touch}
use Rattle.classes.specs.Class.{unreached, none, class_by}
use Rattle.plan.specs.declared.ColumnTouches.{ColumnTouches}
use Rattle.plan.specs.Listed.{nodes_in, blocks_in, node_in, touches_by, plan_in, Drawn, RecordIn}
use Rattle.plan.proofs.Holding.{touches-held, key-held, must-limit-held, may-limit-held, record-in}
use Rattle.tables.specs.Lent.{Lent, ages_at, table_of}
use Rattle.tables.proofs.Laid.{table_of-at}
use Rattle.classing.specs.declared.Pair.{Pair}
use Rattle.classing.specs.declared.Classes.{Classes}
use Rattle.classing.specs.Both.{pair_at, class_after, age_class_of, age_classes, both_by_ages}

-- A reference is of two of the columns.
pub reference-in : (columns plan : List ℕ) → Drawn columns plan → (n : ℕ) → n < nodes_in plan → (reference : ColumnTouches) → (node_in plan n).what ≡ Some reference
    → (reference.lower < blocks_in plan) × (reference.upper < blocks_in plan)
reference-in columns plan drawn n inside reference does = subst (RecordIn (blocks_in plan)) does (record-in columns plan drawn n inside)

module _ (columns plan : List ℕ) (lent : Lent) (n : ℕ) (inside : n < nodes_in plan) where
  abbrev held : Plan
  held = plan_in columns plan

  abbrev both : Classes
  both = both_by_ages held n (cell_at (table_of held lent) n)

  pub unmarked-classes : get_or lent.marks n 0 ≡ 0 → record { first = unreached; second = unreached } ≡ both
  unmarked-classes e = rw (table_of-at held lent n inside, eq-eqb (get_or lent.marks n 0) 0 e)

  module _ (marked : get_or lent.marks n 0 ≡ 0 → ⊥) where
    -- A marked node's classes are those of its touches.
    abbrev classes_by : List ColumnTouch → Classes
    classes_by touches =
        record { first = get_or (age_classes held touches (ages_at held lent n)) 0 none; second = get_or (age_classes held touches (ages_at held lent n)) 1 none }

    record-classes : (planned : Option ColumnTouches) → (node_in plan n).what ≡ planned → classes_by (touches_by planned) ≡ both
    record-classes planned e =
        rw (table_of-at held lent n inside, ne_eqb (get_or lent.marks n 0) 0 marked)
        (ap classes_by (sym (touches-held columns plan n inside ∙ ap touches_by e)))

    pub step-classes : (node_in plan n).what ≡ None → record { first = none; second = none } ≡ both
    step-classes e = record-classes None e

    module _ (drawn : Drawn columns plan) (reference : ColumnTouches) (does : (node_in plan n).what ≡ Some reference) where
      abbrev lower : ℕ
      lower = reference.lower

      abbrev upper : ℕ
      upper = reference.upper

      -- The ages of both on arrival.
      abbrev at_lower : Pair
      at_lower = pair_at lent.must lent.may (n * blocks_in plan + lower)

      abbrev at_upper : Pair
      at_upper = pair_at lent.must lent.may (n * blocks_in plan + upper)

      abbrev lower_touch : ColumnTouch
      lower_touch = record { column = lower; write = reference.write }

      abbrev upper_touch : ColumnTouch
      upper_touch = record { column = upper; write = reference.write }

      in_both : (lower < blocks_in plan) × (upper < blocks_in plan)
      in_both = reference-in columns plan drawn n inside reference does

      -- Ages and limits stand in the lists.
      must-is : (column : ℕ) → column < blocks_in plan → age_of (ages_at held lent n).must column ≡ get_or lent.must (n * blocks_in plan + column) 0
      must-is column h = get_or-list_of (blocks_in plan) (λ k. get_or lent.must (n * blocks_in plan + k) 0) 0 column h

      may-is : (column : ℕ) → column < blocks_in plan → age_of (ages_at held lent n).may column ≡ get_or lent.may (n * blocks_in plan + column) 0
      may-is column h = get_or-list_of (blocks_in plan) (λ k. get_or lent.may (n * blocks_in plan + k) 0) 0 column h

      first-class : class_by (get_or columns (most_blocks + lower) 0) at_lower.must at_lower.may false ≡ age_class_of held lower_touch (ages_at held lent n)
      first-class = sym (λ i. class_by (must-limit-held columns plan lower in_both.0 i) (must-is lower in_both.0 i) (may-is lower in_both.0 i) false)

      pub once-classes : lower ≡ upper
          → record { first = class_by (get_or columns (most_blocks + lower) 0) at_lower.must at_lower.may false; second = none } ≡ both
      once-classes same =
          (λ i. record { first = first-class i; second = none })
          ∙ ap (λ (t : Bool). classes_by (lower_touch ∷ cond t [] (upper_touch ∷ []))) (sym (eq-eqb lower upper same))
          ∙ record-classes (Some reference) does

      module _ (apart : lower ≡ upper → ⊥) where
        other : eqb upper lower ≡ false
        other = ne_eqb upper lower (λ e. apart (sym e))

        must-grown : age_of (after_touch held lower_touch (ages_at held lent n)).must upper
            ≡ cond (eqb (get_or columns upper 0) (get_or columns lower 0)) (must_grown at_lower.must at_upper.must) at_upper.must
        unfolding must_after
        must-grown =
            rw (touch-must (columns_of held) lower (ages_at held lent n) upper in_both.1, other, key-held columns plan upper in_both.1, key-held columns plan lower in_both.0, must-is lower in_both.0, must-is upper in_both.1)

        may-grown : age_of (after_touch held lower_touch (ages_at held lent n)).may upper
            ≡ cond (eqb (get_or columns upper 0) (get_or columns lower 0)) (may_grown (get_or columns (2 * most_blocks + upper) 0) at_lower.may at_upper.may) at_upper.may
        unfolding may_after
        may-grown =
            rw (touch-may (columns_of held) lower (ages_at held lent n) upper in_both.1, other, key-held columns plan upper in_both.1, key-held columns plan lower in_both.0, may-limit-held columns plan upper in_both.1, may-is lower in_both.0, may-is upper in_both.1)

        second-class : class_after columns lower upper at_lower at_upper ≡ age_class_of held upper_touch (after_touch held lower_touch (ages_at held lent n))
        second-class = sym (λ i. class_by (must-limit-held columns plan upper in_both.1 i) (must-grown i) (may-grown i) false)

        pub twice-classes : record {
          first = class_by (get_or columns (most_blocks + lower) 0) at_lower.must at_lower.may false;
          second = class_after columns lower upper at_lower at_upper;
        } ≡ both
        twice-classes =
            (λ i. record { first = first-class i; second = second-class i })
            ∙ ap (λ (t : Bool). classes_by (lower_touch ∷ cond t [] (upper_touch ∷ []))) (sym (ne_eqb lower upper apart))
            ∙ record-classes (Some reference) does
