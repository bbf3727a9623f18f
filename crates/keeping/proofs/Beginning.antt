-- What a flood begins with: the entry alone, where nothing is marked; and where the nodes that walks reach are marked, those of them that touch one
-- of the blocks. And what it ends with: marks on the nodes that walks reach.
use Rattle.std.specs.Prelude.{None, Option, Some}
use Prim.Native.Nat.{ℕ, zero, suc, ◌+◌, ◌≤◌, ◌<◌}
use mathlib.Core.Bool.{Bool, true, false, cond, not, ◌&&◌, true≢false}
use mathlib.Core.List.{List, [], ◌∷◌}
use mathlib.Core.Logic.{◌⊎◌, inl, inr}
use mathlib.Core.Path.{◌≡◌, refl, sym, ap, subst, ◌∙◌}
use native.Mathlib.Decide.{ℕ_discrete}
use native.Mathlib.Omega.{arith}
use borrow.Author.Tests.{eqb-true, eqb-false, eq-eqb}
use lib.Arith.{lt_of_le-ne}
use lib.Dec.{eqb}
use lib.ListN.{get_or, set, length, length-set}
use lib.Pow.{pow_pos}
use lib.Seq.{get_or-set_same, get_or-set_other}
use Rattle.lists.specs.Lists.{Among}
use Rattle.lists.proofs.Choice.{or-false}
use Rattle.flow.specs.Flow.{Cell, blank, holds, cell_at}
use Rattle.flow.specs.Passing.{CellBelow, Passing, leaving, Marked}
use Rattle.flow.specs.Walk.{Reached}
use Rattle.flow.specs.Working.{Brought}
use Rattle.flow.proofs.Reaching.{le-marked}
use Rattle.ages.specs.Plan.{ColumnTouch, Plan, columns_of, arrows_in}
use Rattle.plan.specs.Listed.{nodes_in, blocks_in, entry_in, node_in, touches_by, plan_in, Drawn}
use Rattle.kept.specs.Since.{Since, untouched}
use Rattle.kept.specs.Kept.{kept_flow, kept_table}
use Rattle.kept.proofs.Comparing.{less-refl}
use Rattle.kept.proofs.Settled.{kept-tightest, kept-reached}
use Rattle.kept.proofs.Touching.{untouched-least}
use Rattle.keeping.specs.Words.{Grouped, Chosen, touches_chosen, since_in, word_after}
use Rattle.keeping.specs.Work.{Roomy, span_to}
use Rattle.keeping.specs.Flood.{table_in, due_in, Stands, Flooded, AllFlooded}
use Rattle.keeping.specs.Columns.{group_of}
use Rattle.keeping.specs.Starting.{MarksReached, Zeros, due_by, due_all}
use Rattle.keeping.proofs.States.{word_none, words-none}
use Rattle.keeping.proofs.Tables.{cell-bare, cell-held, cells-all, mark-marked, marked-mark}
use Rattle.keeping.proofs.Visiting.{step-held}
use Rattle.keeping.proofs.Chosen.{first-chosen}
use Rattle.plan.specs.declared.ColumnTouches.{ColumnTouches}

-- ---- which nodes are marked as due

module _ (plan chosen marks : List ℕ) (due : List Bool) where
  due-long : (k : ℕ) → length (due_all plan chosen marks k due) ≡ length due
  due-long zero = refl
  due-long (suc k) = length-set (due_all plan chosen marks k due) k (due_by chosen (get_or marks k 0) (node_in plan k).what) ∙ due-long k

  pub due-at : (k n : ℕ) → k ≤ length due → n < k → get_or (due_all plan chosen marks k due) n false ≡ due_by chosen (get_or marks n 0) (node_in plan n).what
  due-at zero n room h = absurd (omega arith)
  due-at (suc k) n room h = go (ℕ_discrete n k) (due-at k n (omega arith))
    where
      go : Dec (n ≡ k) → (n < k → get_or (due_all plan chosen marks k due) n false ≡ due_by chosen (get_or marks n 0) (node_in plan n).what)
          → get_or (due_all plan chosen marks (suc k) due) n false ≡ due_by chosen (get_or marks n 0) (node_in plan n).what
      go (yes e) before = rw e (get_or-set_same (due_all plan chosen marks k due) k (due_by chosen (get_or marks k 0) (node_in plan k).what) false (omega (arith, due-long k)))
      go (no e) before =
          get_or-set_other (due_all plan chosen marks k due) k n (due_by chosen (get_or marks k 0) (node_in plan k).what) false e
          ∙ before (lt_of_le-ne (omega arith) e)

module _ (columns plan : List ℕ) (drawn : Drawn columns plan) (block : ℕ) (inside : block < blocks_in plan) where
  abbrev held : Plan
  held = plan_in columns plan

  -- A node that is marked and has no bit has the start.
  start-held : (marks words : List ℕ) (n : ℕ) → n < nodes_in plan → (get_or marks n 0 ≡ 0 → ⊥) → get_or words n 0 ≡ 0 → cell_at (table_in held block marks words) n ≡ holds (untouched (blocks_in plan))
  start-held marks words n h marked none =
      cell-held held block marks words n h marked
      ∙ ap (λ (w : ℕ). holds (since_in (columns_of held) block w)) none
      ∙ ap holds (word_none (columns_of held) block)

  -- ---- the entry alone

  module _ (marks words : List ℕ) (due : List Bool) (room : Roomy (nodes_in plan) marks words due) (zeros : Zeros (nodes_in plan) marks words due) where
    entry_inside : entry_in plan < nodes_in plan
    entry_inside = drawn.sound.entry_inside

    entry-marked : get_or (set marks (entry_in plan) 1) (entry_in plan) 0 ≡ 0 → ⊥
    entry-marked e =
        let h = entry_inside in
        let one = get_or-set_same marks (entry_in plan) 1 0 (omega (arith, room.marks_room)) in
        omega arith

    entry-due : due_in (set due (entry_in plan) true) (entry_in plan) ≡ true
    entry-due =
        let h = entry_inside in
        get_or-set_same due (entry_in plan) true false (omega (arith, room.due_room))

    only-entry : (n : ℕ) → n < nodes_in plan → (get_or (set marks (entry_in plan) 1) n 0 ≡ 0 → ⊥) → n ≡ entry_in plan
    only-entry n h marked = go (ℕ_discrete n (entry_in plan))
      where
        go : Dec (n ≡ entry_in plan) → n ≡ entry_in plan
        go (yes e) = e
        go (no e) = absurd (marked (get_or-set_other marks (entry_in plan) n 1 0 e ∙ zeros.marks_zero n h))

    only-due : (n : ℕ) → n < nodes_in plan → due_in (set due (entry_in plan) true) n ≡ true → n ≡ entry_in plan
    only-due n h d = go (ℕ_discrete n (entry_in plan))
      where
        go : Dec (n ≡ entry_in plan) → n ≡ entry_in plan
        go (yes e) = e
        go (no e) =
            absurd (true≢false (sym d ∙ get_or-set_other due (entry_in plan) n true false e ∙ zeros.due_zero n h))

    entry-brought : (n t : ℕ) → n < nodes_in plan → (due_in (set due (entry_in plan) true) n ≡ true) ⊎ Brought (kept_flow held block) (table_in held block (set marks (entry_in plan) 1) words) n t
    entry-brought n t h = go (ℕ_discrete n (entry_in plan))
      where
        go : Dec (n ≡ entry_in plan) → (due_in (set due (entry_in plan) true) n ≡ true) ⊎ Brought (kept_flow held block) (table_in held block (set marks (entry_in plan) 1) words) n t
        go (yes e) = inl (subst (λ (k : ℕ). due_in (set due (entry_in plan) true) k ≡ true) (sym e) entry-due)
        go (no e) =
            inr
            (rw (cell-bare held block (set marks (entry_in plan) 1) words n h (get_or-set_other marks (entry_in plan) n 1 0 e ∙ zeros.marks_zero n h)) tt)

    pub entry-stands : Stands (plan_in columns plan) block (entry_in plan) (record { marks = set marks (entry_in plan) 1; words = words; due = set due (entry_in plan) true; span = span_to (entry_in plan + 1) })
    entry-stands =
        record {
          fits = record { small = λ n h. rw (zeros.words_zero n h) (pow_pos (blocks_in plan)); bare = λ n h e. zeros.words_zero n h };
          begun =
              rw (start-held (set marks (entry_in plan) 1) words (entry_in plan) entry_inside entry-marked (zeros.words_zero (entry_in plan) entry_inside)) (less-refl (blocks_in plan) (untouched (blocks_in plan)));
          under = λ P p.
              cells-all held block (set marks (entry_in plan) 1) words (λ n c. CellBelow (kept_flow held block) c (cell_at P n)) (λ n. tt)
              (λ n h marked.
              subst (λ (s : Since). CellBelow (kept_flow held block) (holds s) (cell_at P n)) (sym (ap (since_in (columns_of held) block) (zeros.words_zero n h) ∙ word_none (columns_of held) block))
              (subst (λ (k : ℕ). CellBelow (kept_flow held block) (holds (untouched (blocks_in plan))) (cell_at P k)) (sym (only-entry n h marked)) p.begun));
          working =
              record {
                due-marked = λ n h d. mark-marked held block (set marks (entry_in plan) 1) words n h (subst (λ (k : ℕ). get_or (set marks (entry_in plan) 1) k 0 ≡ 0 → ⊥) (sym (only-due n h d)) entry-marked);
                brought = λ n t h i. entry-brought n t h;
              };
          within = λ m h d. let e = only-due m h d in inl (omega arith, omega arith);
          to_in = omega (arith, entry_inside);
          high_in = omega arith;
        }

  -- ---- the nodes that touch one of the blocks

  module _ (chosen sets : List ℕ) (grouped : Grouped (blocks_in plan) (group_of columns chosen sets)) (own : Chosen chosen block) (marks words : List ℕ) (due : List Bool) (reach : MarksReached held marks)
      (none : (n : ℕ) → n < nodes_in plan → get_or words n 0 ≡ 0) (touching : (n : ℕ) → n < nodes_in plan → get_or due n false ≡ due_by chosen (get_or marks n 0) (node_in plan n).what) where
    abbrev reached : ℕ → Type 0
    reached n = Reached (arrows_in held) (entry_in plan) n

    kept-marked : (n : ℕ) → reached n → Marked (cell_at (kept_table held block) n)
    kept-marked n = (kept-reached held drawn.sound drawn.few_blocks block inside n).1

    -- the start is below every state
    start-below : (c : Cell Since) → Marked c → CellBelow (kept_flow held block) (holds (untouched (blocks_in plan))) c
    start-below blank m = absurd m
    start-below (holds b) m = untouched-least (blocks_in plan) b

    passing-marked : (P : List (Cell Since)) → Passing (kept_flow held block) P → (n : ℕ) → reached n → Marked (cell_at P n)
    passing-marked P p n r =
        le-marked (kept_flow held block) (cell_at (kept_table held block) n) (cell_at P n) ((kept-tightest held drawn.sound drawn.few_blocks block inside).least P p n) (kept-marked n r)

    -- an arrow leads from a node that is reached to one that is
    still_marked : (n : ℕ) (c : Cell Since) → Marked c → Marked (leaving (kept_flow held block) n c)
    still_marked n blank m = m
    still_marked n (holds a) m = tt

    reached-on : (n t : ℕ) → Among t (arrows_in held n) → reached n → reached t
    reached-on n t i r =
        (kept-reached held drawn.sound drawn.few_blocks block inside t).0
        (le-marked (kept_flow held block) (leaving (kept_flow held block) n (cell_at (kept_table held block) n)) (cell_at (kept_table held block) t)
        ((kept-tightest held drawn.sound drawn.few_blocks block inside).passing.closed n t i) (still_marked n (cell_at (kept_table held block) n) (kept-marked n r)))

    entry-reached : reached (entry_in plan)
    entry-reached = ([], (tt, refl))

    -- a record that touches none of the blocks
    touch-apart : (planned : Option ColumnTouches) → touches_chosen chosen planned ≡ false → (touch : ColumnTouch) → Among touch (touches_by planned) → Chosen chosen touch.column → ⊥
    touch-apart None e touch i q = i
    touch-apart (Some reference) e touch (inl is) q =
        let both = or-false (eqb (get_or chosen reference.lower 0) reference.lower) (eqb (get_or chosen reference.upper 0) reference.upper) e in
        eqb-false (get_or chosen reference.lower 0) reference.lower both.0 (subst (λ (t : ColumnTouch). Chosen chosen t.column) is q)
    touch-apart (Some reference) e touch (inr i) q = go (eqb reference.lower reference.upper) i
      where
        go : (b : Bool) → Among touch (cond b [] (record { column = reference.upper; write = reference.write } ∷ [])) → ⊥
        go true j = j
        go false (inl is) =
            let both = or-false (eqb (get_or chosen reference.lower 0) reference.lower) (eqb (get_or chosen reference.upper 0) reference.upper) e in
            eqb-false (get_or chosen reference.upper 0) reference.upper both.1 (subst (λ (t : ColumnTouch). Chosen chosen t.column) is q)
        go false (inr j) = j

    step-still : (n : ℕ) → n < nodes_in plan → touches_chosen chosen (node_in plan n).what ≡ false → (kept_flow held block).step n (untouched (blocks_in plan)) ≡ untouched (blocks_in plan)
    unfolding word_after
    step-still n h e =
        let still : word_after (group_of columns chosen sets) (node_in plan n).what 0 ≡ 0 = words-none (group_of columns chosen sets) (touches_by (node_in plan n).what) (touch-apart (node_in plan n).what e) in
        ap ((kept_flow held block).step n) (sym (word_none (columns_of held) block))
        ∙ sym (step-held columns plan drawn chosen sets grouped block inside own n h 0)
        ∙ ap (since_in (columns_of held) block) still
        ∙ word_none (columns_of held) block

    begins-brought : (n t : ℕ) → n < nodes_in plan → Among t (arrows_in held n) → (due_in due n ≡ true) ⊎ Brought (kept_flow held block) (table_in held block marks words) n t
    unfolding due_by
    begins-brought n t h i = go (eqb (get_or marks n 0) 0) refl (touches_chosen chosen (node_in plan n).what) refl
      where
        due-is : (b s : Bool) → eqb (get_or marks n 0) 0 ≡ b → touches_chosen chosen (node_in plan n).what ≡ s → get_or due n false ≡ (not b && s)
        due-is b s e d = touching n h ∙ (rw (e, d))

        go : (b : Bool) → eqb (get_or marks n 0) 0 ≡ b → (s : Bool) → touches_chosen chosen (node_in plan n).what ≡ s
            → (due_in due n ≡ true) ⊎ Brought (kept_flow held block) (table_in held block marks words) n t
        go true e s d = inr (rw (cell-bare held block marks words n h (eqb-true (get_or marks n 0) 0 e)) tt)
        go false e true d = inl (due-is false true e d)
        go false e false d =
            let marked = eqb-false (get_or marks n 0) 0 e in
            let there : t < nodes_in plan = drawn.sound.arrows-in n t h i in
            let here = start-held marks words n h marked (none n h) in
            let target = start-held marks words t there (reach.marked t there (reached-on n t i (reach.reached n h marked))) (none t there) in
            inr (rw (here, target, step-still n h d) (less-refl (blocks_in plan) (untouched (blocks_in plan))))

    begins-marked : (n : ℕ) → n < nodes_in plan → due_in due n ≡ true → get_or marks n 0 ≡ 0 → ⊥
    unfolding due_by
    begins-marked n h d e =
        let zero-due : get_or due n false ≡ false = touching n h ∙ (rw (eq-eqb (get_or marks n 0) 0 e)) in
        true≢false (sym d ∙ zero-due)

    pub block-stands : Stands (plan_in columns plan) block 0 (record { marks = marks; words = words; due = due; span = span_to (nodes_in plan) })
    block-stands =
        record {
          fits = record { small = λ n h. rw (none n h) (pow_pos (blocks_in plan)); bare = λ n h e. none n h };
          begun =
              rw (start-held marks words (entry_in plan) drawn.sound.entry_inside (reach.marked (entry_in plan) drawn.sound.entry_inside entry-reached) (none (entry_in plan) drawn.sound.entry_inside))
              (less-refl (blocks_in plan) (untouched (blocks_in plan)));
          under = λ P p.
              cells-all held block marks words (λ n c. CellBelow (kept_flow held block) c (cell_at P n)) (λ n. tt)
              (λ n h marked.
              subst (λ (s : Since). CellBelow (kept_flow held block) (holds s) (cell_at P n)) (sym (ap (since_in (columns_of held) block) (none n h) ∙ word_none (columns_of held) block))
              (start-below (cell_at P n) (passing-marked P p n (reach.reached n h marked))));
          working = record { due-marked = λ n h d. mark-marked held block marks words n h (begins-marked n h d); brought = begins-brought };
          within = λ m h d. inl (omega arith, h);
          to_in = omega arith;
          high_in = omega arith;
        }

  -- ---- the end

  pub flooded-reached : (marks words : List ℕ) → Flooded (plan_in columns plan) block marks words → MarksReached (plan_in columns plan) marks
  flooded-reached marks words flooded =
      record {
        reached = λ n h marked. (kept-reached held drawn.sound drawn.few_blocks block inside n).0 (subst (λ (T : List (Cell Since)). Marked (cell_at T n)) flooded.table (mark-marked held block marks words n h marked));
        marked = λ n h r. marked-mark held block marks words n h (subst (λ (T : List (Cell Since)). Marked (cell_at T n)) (sym flooded.table) ((kept-reached held drawn.sound drawn.few_blocks block inside n).1 r));
      }

pub all-reached : (columns plan : List ℕ) → Drawn columns plan → (chosen sets : List ℕ) → Grouped (blocks_in plan) (group_of columns chosen sets) → 0 < blocks_in plan → (marks words : List ℕ)
    → AllFlooded columns plan chosen marks words → MarksReached (plan_in columns plan) marks
all-reached columns plan drawn chosen sets grouped some marks words flooded =
    let one = first-chosen (blocks_in plan) columns chosen sets some grouped in
    flooded-reached columns plan drawn (get_or chosen 0 0) one.0 marks words (flooded (get_or chosen 0 0) one.0 one.1)
