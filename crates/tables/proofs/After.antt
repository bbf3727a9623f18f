-- A row that is taken through its node's record has the ages of the step, in the columns of the plan; the row of the start has the start's.
use Rattle.std.specs.Prelude.{None, Option, Some}
use Prim.Native.Nat.{ℕ, ◌≤◌, ◌<◌}
use mathlib.Core.Bool.{Bool, true, false, cond}
use mathlib.Core.List.{List, [], ◌∷◌}
use mathlib.Core.Path.{refl, sym, ap, subst, ◌∙◌}
use native.Mathlib.Omega.{arith}
use lib.Dec.{eqb}
use lib.ListN.{length}
use Rattle.lists.proofs.Listed.{get_or-list_of}
use Rattle.lists.proofs.Joined.{row_in}
use Rattle.chart.specs.Geometry.{most_blocks}
use Rattle.cache.specs.Ages.{Ages, touch_ages, start_ages}
use Rattle.flow.specs.Walk.{in_turn}
use Rattle.ages.specs.Plan.{ColumnTouch, Plan, columns_of, touch_column, after_touch, plan_flow}
use Rattle.plan.specs.Listed.{nodes_in, blocks_in, empty_in, node_in, touches_by, plan_in, Drawn, RecordIn}
use Rattle.plan.proofs.Holding.{touches-held, key-held, must-limit-held, may-limit-held, record-in}
use Rattle.rows.specs.Rows.{columns_by, after_record}
use Rattle.tables.specs.Lent.{Lent, ages_used, ages_at}
use Rattle.tables.specs.Inner.{Loads, row_after, AgesAgree}
use Rattle.tables.proofs.Agreeing.{agree-through, touch-agrees}
use Rattle.plan.specs.declared.ColumnTouches.{ColumnTouches}

module _ (columns plan : List ℕ) (drawn : Drawn columns plan) where
  abbrev held : Plan
  held = plan_in columns plan

  touch-held : (m : ℕ) → m < blocks_in plan → (row a : Ages) → AgesAgree (blocks_in plan) row a
      → AgesAgree (blocks_in plan) (touch_ages (columns_by columns most_blocks) m row) (touch_ages (columns_of held) m a)
  touch-held =
      touch-agrees (blocks_in plan) (columns_by columns most_blocks) (columns_of held) drawn.few_blocks (omega arith)
      (λ j h. sym (key-held columns plan j h))
      (λ j h. sym (may-limit-held columns plan j h))

  record-agrees : (planned : Option ColumnTouches) → RecordIn (blocks_in plan) planned → (row a : Ages) → AgesAgree (blocks_in plan) row a
      → AgesAgree (blocks_in plan) (after_record (columns_by columns most_blocks) planned row) (in_turn (after_touch held) (touches_by planned) a)
  record-agrees None inside row a agree = agree
  record-agrees (Some reference) inside row a agree = go (eqb reference.lower reference.upper)
    where
      both : Bool → List ColumnTouch
      both t = record { column = reference.lower; write = reference.write } ∷ cond t [] (record { column = reference.upper; write = reference.write } ∷ [])

      once : AgesAgree (blocks_in plan) (touch_ages (columns_by columns most_blocks) reference.lower row) (touch_ages (columns_of held) reference.lower a)
      once = touch-held reference.lower inside.0 row a agree

      go : (t : Bool) → AgesAgree (blocks_in plan) (in_turn (touch_column (columns_by columns most_blocks)) (both t) row) (in_turn (after_touch held) (both t) a)
      go true = once
      go false = touch-held reference.upper inside.1 _ _ once

  module _ (n : ℕ) (inside : n < nodes_in plan) (lent : Lent)
      (must_room : ages_used held ≤ length lent.must) (may_room : ages_used held ≤ length lent.may) where
    pub row-loads : Loads columns lent.must lent.may (blocks_in plan) n
    row-loads =
        let room = row_in n (nodes_in plan) (blocks_in plan) inside in
        record { few = drawn.few_blocks; columns_long = drawn.columns_long; must_in = omega arith; may_in = omega arith }

    abbrev stepped : Ages
    stepped = row_after columns lent.must lent.may (blocks_in plan) n (node_in plan n).what

    -- A row that has the ages after the record has those of the step.
    pub after-agrees : (row : Ages) → AgesAgree (blocks_in plan) row stepped → AgesAgree (blocks_in plan) row ((plan_flow held).step n (ages_at held lent n))
    after-agrees row after =
        agree-through row _ _ after
        (subst (AgesAgree (blocks_in plan) stepped)
        (ap (λ (ts : List ColumnTouch). in_turn (after_touch held) ts (ages_at held lent n)) (sym (touches-held columns plan n inside)))
        (record-agrees (node_in plan n).what (record-in columns plan drawn n inside) _ (ages_at held lent n) (record { must = λ j h. refl; may = λ j h. refl })))

  pub start-agrees : AgesAgree (blocks_in plan) (start_ages (columns_by columns most_blocks) (empty_in plan)) (plan_flow held).start
  unfolding start_ages
  start-agrees =
      record {
        must = λ j h.
            get_or-list_of most_blocks (columns_by columns most_blocks).must_limit 0 j (omega (arith, drawn.few_blocks))
            ∙ sym (must-limit-held columns plan j h)
            ∙ sym (get_or-list_of (blocks_in plan) (columns_of held).must_limit 0 j h);
        may = λ j h.
            get_or-list_of most_blocks (λ column. cond (empty_in plan) ((columns_by columns most_blocks).may_limit column) 0) 0 j (omega (arith, drawn.few_blocks))
            ∙ ap (λ (limit : ℕ). cond (empty_in plan) limit 0) (sym (may-limit-held columns plan j h))
            ∙ sym (get_or-list_of (blocks_in plan) (λ column. cond (empty_in plan) ((columns_of held).may_limit column) 0) 0 j h);
      }
