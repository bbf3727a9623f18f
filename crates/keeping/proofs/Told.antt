-- A flooded word, told: the touches of the blocks that share it are told of, and those of other blocks stay as they were. When all blocks that are
-- wanted are told of, all touches of them are.
use Rattle.std.specs.Prelude.{None, Option, Some}
use Prim.Native.Nat.{ℕ, ◌+◌, ◌*◌, ◌/◌, ◌%◌, ◌^◌, ◌≤◌, ◌<◌}
use mathlib.Core.Bool.{Bool, true, false, cond, true≢false}
use mathlib.Core.List.{List, [], ◌∷◌}
use mathlib.Core.Logic.{◌⊎◌, inl, inr, ⊎_elim}
use mathlib.Core.Path.{◌≡◌, refl, sym, ap, subst, ◌∙◌}
use native.Mathlib.Decide.{ℕ_discrete}
use native.Mathlib.Omega.{arith}
use borrow.Author.Tests.{eq-eqb, ne_eqb, eqb-true, eqb-false}
use lib.Arith.{lt_of_le-ne}
use lib.Dec.{eqb, ltb}
use lib.ListN.{get_or, length}
use Rattle.lists.specs.Lists.{Among}
use Rattle.lists.proofs.Loops.{patch-in0}
use Rattle.lists.proofs.Orders.{below_or}
use Rattle.chart.specs.Geometry.{most_blocks, most_touches}
use Rattle.flow.specs.Flow.{Cell, cell_at}
use Rattle.ages.specs.Plan.{ColumnTouch, Plan, columns_of, touches_in}
use Rattle.plan.specs.declared.ColumnTouches.{ColumnTouches}
use Rattle.plan.specs.Listed.{nodes_in, blocks_in, node_in, touches_by, plan_in, Drawn}
use Rattle.plan.proofs.Holding.{touches-held, key-held, may-limit-held, record-in, record-fits}
use Rattle.kept.specs.Since.{Since}
use Rattle.kept.specs.Kept.{after_touch_of, since_of, since_at, stays_by}
use Rattle.bits.specs.Bits.{is_set}
use Rattle.keeping.specs.Words.{Group, set_bits, Grouped, Chosen, since_in, word_touched, stays_in}
use Rattle.keeping.specs.Columns.{RecordsRead, group_of}
use Rattle.keeping.specs.Flood.{table_in, Flooded, AllFlooded}
use Rattle.keeping.specs.Telling.{BlockTold, ToldSoFar, NextWanted, told_by, told_of, told_at, told_all}
use Rattle.keeping.specs.Choosing.{TakenOut}
use Rattle.keeping.specs.Told.{StaysTold}
use Rattle.keeping.proofs.States.{word_none, word-members, word-touch, touch-small}
use Rattle.keeping.proofs.Tables.{cell-bare, cell-held}

-- ---- the columns of a record that touches something

cons_same : (touch other : ColumnTouch) (rest more : List ColumnTouch) → touch ∷ rest ≡ other ∷ more → (touch ≡ other) × (rest ≡ more)
cons_same touch other rest more e = ((cc), (cc))

never-none : (touch : ColumnTouch) (rest : List ColumnTouch) → [] ≡ touch ∷ rest → ⊥
never-none touch rest e = let z : ◌≡◌ {A = ℕ} 0 1 = cc in omega arith

-- The columns of a record that touches something.
pub first-column : (reference : ColumnTouches) (touch : ColumnTouch) (rest : List ColumnTouch) → touches_by (Some reference) ≡ touch ∷ rest → reference.lower ≡ touch.column
first-column reference touch rest e =
    ap (λ (t : ColumnTouch). t.column) (cons_same (record { column = reference.lower; write = reference.write }) touch (cond (eqb reference.lower reference.upper) [] (record { column = reference.upper; write = reference.write } ∷ [])) rest e).0

pub second-column : (reference : ColumnTouches) (touch other : ColumnTouch) (rest : List ColumnTouch) → touches_by (Some reference) ≡ touch ∷ other ∷ rest
    → (reference.upper ≡ other.column) × (eqb reference.lower reference.upper ≡ false)
second-column reference touch other rest e =
    go (eqb reference.lower reference.upper) refl
    (cons_same (record { column = reference.lower; write = reference.write }) touch (cond (eqb reference.lower reference.upper) [] (record { column = reference.upper; write = reference.write } ∷ [])) (other ∷ rest) e).1
  where
    go : (b : Bool) → eqb reference.lower reference.upper ≡ b → cond b [] (record { column = reference.upper; write = reference.write } ∷ []) ≡ other ∷ rest
        → (reference.upper ≡ other.column) × (eqb reference.lower reference.upper ≡ false)
    go true q d = absurd (never-none other rest d)
    go false q d = (ap (λ (t : ColumnTouch). t.column) (cons_same (record { column = reference.upper; write = reference.write }) other [] rest d).0, q)

-- What is told of a record's touches, by the columns of these.
first-told : (group : Group) (planned : Option ColumnTouches) (touch : ColumnTouch) (rest : List ColumnTouch) → touches_by planned ≡ touch ∷ rest → (word old : ℕ) → told_of group planned word 0 old ≡ told_by group word touch.column old
first-told group None touch rest e word old = absurd (never-none touch rest e)
first-told group (Some reference) touch rest e word old = ap (λ (column : ℕ). told_by group word column old) (first-column reference touch rest e)

second-told : (group : Group) (planned : Option ColumnTouches) (touch other : ColumnTouch) (rest : List ColumnTouch) → touches_by planned ≡ touch ∷ other ∷ rest → (word old : ℕ)
    → told_of group planned word 1 old ≡ told_by group (word_touched group touch.column word) other.column old
second-told group None touch other rest e word old = absurd (never-none touch (other ∷ rest) e)
second-told group (Some reference) touch other rest e word old =
    let both = second-column reference touch other rest e in
    rw both.1 (λ i. told_by group (word_touched group (first-column reference touch (other ∷ rest) e i) word) (both.0 i) old)

module _ (columns plan : List ℕ) (drawn : Drawn columns plan) where
  abbrev held : Plan
  held = plan_in columns plan

  module _ (chosen sets : List ℕ) (grouped : Grouped (blocks_in plan) (group_of columns chosen sets)) where
    abbrev group : Group
    group = group_of columns chosen sets

    -- ---- what a word tells

    module _ (block : ℕ) (inside : block < blocks_in plan) (own : Chosen chosen block) where
      in-its-set : (column : ℕ) → column < blocks_in plan → is_set (set_bits group block) column ≡ eqb ((columns_of held).key column) ((columns_of held).key block)
      in-its-set column h = grouped.sets_are block column inside h ∙ (λ i. eqb (sym (key-held columns plan column h) i) (sym (key-held columns plan block inside) i))

      word-tells : (word : ℕ) → word < 2 ^ blocks_in plan → stays_in group block word ≡ stays_by (plan_in columns plan) block (since_in (columns_of held) block word)
      unfolding stays_in stays_by
      word-tells word small =
          let counted = word-members (columns_of held) block (set_bits group block) word in-its-set small inside in
          let limit = may-limit-held columns plan block inside in
          λ i. ltb (sym counted i) (sym limit i)

      module _ (marks words : List ℕ) (flooded : Flooded held block marks words) (n : ℕ) (node : n < nodes_in plan) where
        -- The state on arrival is that of the node's word, also where there is none.
        arrives : since_at held n block ≡ since_in (columns_of held) block (get_or words n 0)
        arrives = ap (λ (T : List (Cell Since)). since_of (blocks_in plan) (cell_at T n)) (sym flooded.table) ∙ go (eqb (get_or marks n 0) 0) refl
          where
            go : (b : Bool) → eqb (get_or marks n 0) 0 ≡ b → since_of (blocks_in plan) (cell_at (table_in held block marks words) n) ≡ since_in (columns_of held) block (get_or words n 0)
            go true e =
                let bare = eqb-true (get_or marks n 0) 0 e in
                rw (cell-bare held block marks words n node bare, flooded.fits.bare n node bare) (sym (word_none (columns_of held) block))
            go false e = rw (cell-held held block marks words n node (eqb-false (get_or marks n 0) 0 e))

        first-tells : stays_in group block (get_or words n 0) ≡ stays_by held block (since_at held n block)
        first-tells =
            word-tells (get_or words n 0) (flooded.fits.small n node)
            ∙ ap (stays_by held block) (sym arrives)

        second-tells : (touch : ColumnTouch) → touch.column < blocks_in plan
            → stays_in group block (word_touched group touch.column (get_or words n 0)) ≡ stays_by held block (after_touch_of held block touch (since_at held n block))
        second-tells touch there =
            word-tells (word_touched group touch.column (get_or words n 0))
            (touch-small group (columns_of held) (key-held columns plan) grouped block inside own touch.column there (get_or words n 0) (flooded.fits.small n node))
            ∙ ap (stays_by held block)
            (word-touch group (columns_of held) (key-held columns plan) grouped block inside own touch.column there (get_or words n 0) ∙ ap (after_touch_of held block touch) (sym arrives))

    -- ---- the touches of all nodes

    module _ (words stays : List ℕ) (room : most_touches * nodes_in plan ≤ length stays) where
      abbrev after : List ℕ
      after = told_all group plan words (nodes_in plan) stays

      module _ (n : ℕ) (node : n < nodes_in plan) where
        told-first : get_or after (most_touches * n) 0 ≡ told_of group (node_in plan n).what (get_or words n 0) 0 (get_or stays (most_touches * n) 0)
        told-first =
            let which : most_touches * n / most_touches ≡ n = omega arith in
            let touch : most_touches * n % most_touches ≡ 0 = omega arith in
            patch-in0 stays (most_touches * nodes_in plan) (told_at group plan words stays) (most_touches * n) room (omega arith)
            ∙ (λ i. told_of group (node_in plan (which i)).what (get_or words (which i) 0) (touch i) (get_or stays (most_touches * n) 0))

        told-second : get_or after (most_touches * n + 1) 0 ≡ told_of group (node_in plan n).what (get_or words n 0) 1 (get_or stays (most_touches * n + 1) 0)
        told-second =
            let which : (most_touches * n + 1) / most_touches ≡ n = omega arith in
            let touch : (most_touches * n + 1) % most_touches ≡ 1 = omega arith in
            patch-in0 stays (most_touches * nodes_in plan) (told_at group plan words stays) (most_touches * n + 1) room (omega arith)
            ∙ (λ i. told_of group (node_in plan (which i)).what (get_or words (which i) 0) (touch i) (get_or stays (most_touches * n + 1) 0))

        first_by : (touch : ColumnTouch) (rest : List ColumnTouch) → touches_in held n ≡ touch ∷ rest → get_or after (most_touches * n) 0 ≡ told_by group (get_or words n 0) touch.column (get_or stays (most_touches * n) 0)
        first_by touch rest e =
            told-first ∙ first-told group (node_in plan n).what touch rest (sym (touches-held columns plan n node) ∙ e) (get_or words n 0) (get_or stays (most_touches * n) 0)

        second-by : (touch other : ColumnTouch) (rest : List ColumnTouch) → touches_in held n ≡ touch ∷ other ∷ rest
            → get_or after (most_touches * n + 1) 0 ≡ told_by group (word_touched group touch.column (get_or words n 0)) other.column (get_or stays (most_touches * n + 1) 0)
        second-by touch other rest e =
            told-second ∙ second-told group (node_in plan n).what touch other rest (sym (touches-held columns plan n node) ∙ e) (get_or words n 0) (get_or stays (most_touches * n + 1) 0)

      abbrev told : Bool → ℕ
      told kept = cond kept 1 0

      -- The blocks that share the words are told of.
      block-told : (marks : List ℕ) → AllFlooded columns plan chosen marks words → (block : ℕ) → block < blocks_in plan → Chosen chosen block → BlockTold held block after
      block-told marks flooded block inside own =
          record {
            first = λ n h touch rest e q.
                first_by n h touch rest e
                ∙ (rw (q, eq-eqb (get_or chosen block 0) block own) (ap told (first-tells block inside own marks words (flooded block inside own) n h)));
            second = λ n h touch other rest e q.
                let there : touch.column < blocks_in plan = drawn.sound.columns_in n h touch (subst (Among touch) (sym e) (inl refl)) in
                second-by n h touch other rest e
                ∙ (rw (q, eq-eqb (get_or chosen block 0) block own) (ap told (second-tells block inside own marks words (flooded block inside own) n h touch there)));
          }

      -- What was told of another block stays.
      others-told : (block : ℕ) → (Chosen chosen block → ⊥) → BlockTold held block stays → BlockTold held block after
      others-told block apart told =
          record {
            first = λ n h touch rest e q. first_by n h touch rest e ∙ (rw (q, ne_eqb (get_or chosen block 0) block apart) (told.first n h touch rest e q));
            second = λ n h touch other rest e q. second-by n h touch other rest e ∙ (rw (q, ne_eqb (get_or chosen block 0) block apart) (told.second n h touch other rest e q));
          }

    -- ---- a round: those chosen are told of, and are no longer left

    pub told-on : (marks words stays after : List ℕ) (nodes count wanted left rest k : ℕ) → nodes ≡ nodes_in plan → count ≡ blocks_in plan → most_touches * nodes_in plan ≤ length stays → AllFlooded columns plan chosen marks words
        → after ≡ told_all (group_of columns chosen sets) plan words nodes stays → Chosen chosen k → TakenOut chosen count left rest
        → ToldSoFar (plan_in columns plan) wanted left k stays → ToldSoFar (plan_in columns plan) wanted rest (k + 1) after
    told-on marks words stays after nodes count wanted left rest k same counted room flooded e here taken so_far block inside asked done =
        subst (BlockTold held block) (sym is) (go (ℕ_discrete (get_or chosen block 0) block) done)
      where
        is : after ≡ told_all group plan words (nodes_in plan) stays
        is = e ∙ ap (λ (n : ℕ). told_all group plan words n stays) same

        before : (Chosen chosen block → ⊥) → (block < k + 1) ⊎ (is_set rest block ≡ false) → (block < k) ⊎ (is_set left block ≡ false)
        before q (inl l) = inl (lt_of_le-ne (omega arith) (λ p. q (subst (Chosen chosen) (sym p) here)))
        before q (inr r) = ⊎_elim (λ (was : is_set left block ≡ false). inr was) (λ (own : Chosen chosen block). absurd (q own)) (taken block (omega arith) r)

        go : Dec (get_or chosen block 0 ≡ block) → (block < k + 1) ⊎ (is_set rest block ≡ false) → BlockTold held block (told_all group plan words (nodes_in plan) stays)
        go (yes own) d = block-told words stays room marks flooded block inside own
        go (no q) d = others-told words stays room block q (so_far block inside asked (before q d))

  -- ---- all blocks

  -- None is left up to the next that is.
  pub told-up-to : (wanted left k count next : ℕ) (stays : List ℕ) → NextWanted left k count next → ToldSoFar (plan_in columns plan) wanted left k stays → ToldSoFar (plan_in columns plan) wanted left next stays
  told-up-to wanted left k count next stays none told block inside asked (inl l) =
      ⊎_elim (λ (h : block < k). told block inside asked (inl h))
      (λ (h : k ≤ block). told block inside asked (inr (none.none_before block h l))) (below_or block k)
  told-up-to wanted left k count next stays none told block inside asked (inr r) = told block inside asked (inr r)

  -- None is told of at first, where all that are wanted are left.
  pub none_told : (wanted count next : ℕ) (stays : List ℕ) → NextWanted wanted 0 count next → ToldSoFar (plan_in columns plan) wanted wanted next stays
  none_told wanted count next stays none =
      told-up-to wanted wanted 0 count next stays none (λ block inside asked done. absurd (⊎_elim (λ (l : block < 0). omega arith) (λ (r : is_set wanted block ≡ false). true≢false (sym asked ∙ r)) done))

  pub all_told : (wanted left k : ℕ) (stays : List ℕ) → blocks_in plan ≤ k → ToldSoFar (plan_in columns plan) wanted left k stays → StaysTold (plan_in columns plan) wanted stays
  all_told wanted left k stays all told =
      record {
        first = λ n h touch rest e asked. let there = drawn.sound.columns_in n h touch (subst (Among touch) (sym e) (inl refl)) in (told touch.column there asked (inl (omega arith))).first n h touch rest e refl;
        second = λ n h touch other rest e asked. let there = drawn.sound.columns_in n h other (subst (Among other) (sym e) (inr (inl refl))) in (told other.column there asked (inl (omega arith))).second n h touch other rest e refl;
      }

  pub records-read : RecordsRead plan
  records-read =
      record {
        plan_long = drawn.plan_long;
        records-in = λ n h. record-fits (blocks_in plan) most_blocks drawn.few_blocks (node_in plan n).what (record-in columns plan drawn n h);
      }
