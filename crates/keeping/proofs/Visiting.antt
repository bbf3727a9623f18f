-- A node taken: the table stays on its way, and where the node was due less is left to do.
use Prim.Native.Nat.{ℕ, suc, ◌+◌, ◌^◌, ◌≤◌, ◌<◌}
use mathlib.Core.Bool.{Bool, true, false, true≢false}
use mathlib.Core.List.{List, []}
use mathlib.Core.Logic.{◌⊎◌, inl, inr}
use mathlib.Core.Path.{◌≡◌, refl, sym, ap, subst, ◌∙◌}
use native.Mathlib.Numerals.{add-one}
use native.Mathlib.Omega.{arith}
use lib.Arith.{lt_of_le-ne}
use lib.ListN.{get_or, set, length-set}
use lib.Seq.{get_or-set_same}
use Rattle.lists.specs.Lists.{Among}
use Rattle.chart.specs.Record.{arrows_of}
use Rattle.flow.specs.Flow.{holds, cell_at}
use Rattle.flow.specs.Walk.{in_turn}
use Rattle.flow.specs.Underway.{Underway}
use Rattle.flow.proofs.Settling.{step-meetable}
use Rattle.flow.proofs.Working.{sending-begins, sending-ends}
use Rattle.ages.specs.Plan.{ColumnTouch, Plan, columns_of, arrows_in}
use Rattle.plan.specs.Listed.{nodes_in, blocks_in, node_in, touches_by, plan_in, Drawn}
use Rattle.plan.proofs.Holding.{touches-held, arrows-held, key-held}
use Rattle.kept.specs.Since.{Since}
use Rattle.kept.specs.Kept.{after_touch_of, kept_flow}
use Rattle.kept.proofs.Lawful.{kept_laws}
use Rattle.keeping.specs.declared.span.Span.{Span}
use Rattle.keeping.specs.Words.{Group, Grouped, Chosen, since_in, word_after}
use Rattle.keeping.specs.Columns.{group_of}
use Rattle.keeping.specs.Work.{Work, Roomy, sent_all, cleared, visited}
use Rattle.keeping.specs.Flood.{due_in, Within, Stands, weight_of}
use Rattle.keeping.proofs.States.{words-touch, words_small}
use Rattle.keeping.proofs.Tables.{table-long, table-real, cell-held, marked-mark}
use Rattle.keeping.proofs.Weights.{cleared-lighter}
use Rattle.keeping.proofs.Sending.{table_of, Sent, due-stored, all-sent}

-- What a turn of node n leaves.
pub record Turned (columns plan : List ℕ) (block n : ℕ) (before after : Work) : Type 0 where
  pub room : Roomy (nodes_in plan) after.marks after.words after.due
  pub stands : Stands (plan_in columns plan) block (n + 1) after
  pub lighter : weight_of (nodes_in plan) after ≤ weight_of (nodes_in plan) before
  pub progress : (weight_of (nodes_in plan) after < weight_of (nodes_in plan) before) ⊎ (after.span ≡ before.span)

module _ (columns plan : List ℕ) (drawn : Drawn columns plan) (block : ℕ) (inside : block < blocks_in plan) where
  pub stands-underway : (n : ℕ) (work : Work) → Stands (plan_in columns plan) block n work → Underway (kept_flow (plan_in columns plan) block) (kept_laws (plan_in columns plan) drawn.sound block) (table_of (plan_in columns plan) block work)
  stands-underway n work s =
      record {
        long = table-long (plan_in columns plan) block work.marks work.words;
        fine = table-real (plan_in columns plan) block work.marks work.words drawn.sound inside;
        begun = s.begun;
        under = s.under;
      }

module _ (columns plan : List ℕ) (drawn : Drawn columns plan) (chosen sets : List ℕ) (grouped : Grouped (blocks_in plan) (group_of columns chosen sets))
    (block : ℕ) (inside : block < blocks_in plan) (own : Chosen chosen block) where
  abbrev held : Plan
  held = plan_in columns plan

  abbrev group : Group
  group = group_of columns chosen sets

  -- ---- the word after a node's record

  module _ (n : ℕ) (node : n < nodes_in plan) (word : ℕ) where
    touch-in : (touch : ColumnTouch) → Among touch (touches_by (node_in plan n).what) → touch.column < blocks_in plan
    touch-in touch i = drawn.sound.columns_in n node touch (subst (Among touch) (sym (touches-held columns plan n node)) i)

    pub step-held : since_in (columns_of (plan_in columns plan)) block (word_after (group_of columns chosen sets) (node_in plan n).what word) ≡ (kept_flow (plan_in columns plan) block).step n (since_in (columns_of (plan_in columns plan)) block word)
    unfolding word_after
    step-held =
        words-touch group (columns_of held) (key-held columns plan) grouped block inside own (touches_by (node_in plan n).what) touch-in word
        ∙ ap (λ (touches : List ColumnTouch). in_turn (after_touch_of held block) touches (since_in (columns_of held) block word)) (sym (touches-held columns plan n node))

    pub step_small : word < 2 ^ blocks_in plan → word_after (group_of columns chosen sets) (node_in plan n).what word < 2 ^ blocks_in plan
    unfolding word_after
    step_small small =
        words_small group (columns_of held) (key-held columns plan) grouped block inside own (touches_by (node_in plan n).what) touch-in word small

  -- ---- before and after a turn

  within-next : (n : ℕ) (span : Span) (m : ℕ) → (m ≡ n → ⊥) → Within n span m → Within (suc n) span m
  within-next n span m apart (inl h) =
      let low = h.0 in
      let more : n < m = lt_of_le-ne low (λ e. apart (sym e)) in
      inl (more, h.1)
  within-next n span m apart (inr h) = inr h

  all-stands : (n : ℕ) (x : Since) (work : Work) → Sent held drawn.sound block n x [] work → Stands held block (suc n) work
  all-stands n x work s =
      record {
        fits = s.fits;
        begun = s.underway.begun;
        under = s.underway.under;
        working = sending-ends (kept_flow held block) (table_of held block work) (due_in work.due) n x s.sending;
        within = s.within;
        to_in = s.to_in;
        high_in = s.high_in;
      }

  module _ (n : ℕ) (node : n < nodes_in plan) (work : Work) (room : Roomy (nodes_in plan) work.marks work.words work.due) (s : Stands held block n work) where
    not-due : due_in (set work.due n false) n ≡ true → ⊥
    not-due d =
        true≢false
        (sym d ∙ get_or-set_same work.due n false false (omega (arith, room.due_room)))

    cleared-apart : (m : ℕ) → due_in (set work.due n false) m ≡ true → m ≡ n → ⊥
    cleared-apart m d e = not-due (subst (λ (k : ℕ). due_in (set work.due n false) k ≡ true) e d)

    cleared-due : (m : ℕ) → due_in (set work.due n false) m ≡ true → due_in work.due m ≡ true
    cleared-due m d = sym (due-stored work.due n false m (cleared-apart m d)) ∙ d

    cell-is : due_in work.due n ≡ true → cell_at (table_of held block work) n ≡ holds (since_in (columns_of held) block (get_or work.words n 0))
    cell-is d = cell-held held block work.marks work.words n node (marked-mark held block work.marks work.words n node (s.working.due-marked n node d))

    begins : due_in work.due n ≡ true → Sent held drawn.sound block n (since_in (columns_of held) block (get_or work.words n 0)) (arrows_in held n) (cleared n work)
    begins d =
        record {
          room = record { marks_room = room.marks_room; words_room = room.words_room; due_room = omega (arith, room.due_room, length-set work.due n false) };
          fits = s.fits;
          underway = stands-underway columns plan drawn block inside n work s;
          sending =
              sending-begins (kept_flow held block) (table_of held block work) (due_in work.due) (due_in (set work.due n false)) n (since_in (columns_of held) block (get_or work.words n 0)) (cell-is d) s.working cleared-due
              (λ m q e. due-stored work.due n false m q ∙ e);
          within = λ m h e. within-next n work.span m (cleared-apart m e) (s.within m h (cleared-due m e));
          to_in = s.to_in;
          high_in = s.high_in;
        }

    -- A node that is due sends its word.
    takes : due_in work.due n ≡ true → Sent held drawn.sound block n (since_in (columns_of held) block (get_or work.words n 0)) [] (sent_all n (word_after group (node_in plan n).what (get_or work.words n 0)) (arrows_of (node_in plan n).targets) (cleared n work))
        × (weight_of (nodes_in plan) (sent_all n (word_after group (node_in plan n).what (get_or work.words n 0)) (arrows_of (node_in plan n).targets) (cleared n work)) ≤ weight_of (nodes_in plan) (cleared n work))
    takes d =
        let word = get_or work.words n 0 in
        let arrows = arrows-held columns plan n node in
        all-sent held drawn.sound drawn.few_blocks block n (since_in (columns_of held) block word) (word_after group (node_in plan n).what word) (step_small n node word (s.fits.small n node)) (step-held n node word) (arrows_of (node_in plan n).targets) (cleared n work)
        (subst (λ (ts : List ℕ). Sent held drawn.sound block n (since_in (columns_of held) block word) ts (cleared n work)) arrows (begins d))
        (λ t i. drawn.sound.arrows-in n t node (subst (Among t) (sym arrows) i))
        (λ t i. step-meetable (kept_flow held block) (kept_laws held drawn.sound block) (table_of held block work) n (since_in (columns_of held) block word) (stands-underway columns plan drawn block inside n work s) (cell-is d) t (subst (Among t) (sym arrows) i))

    -- A turn of node n.
    pub visited-turned : Turned columns plan block n work (visited (group_of columns chosen sets) plan n work)
    unfolding visited
    visited-turned = go (get_or work.due n false) refl
      where
        go : (b : Bool) → get_or work.due n false ≡ b → Turned columns plan block n work (visited group plan n work)
        go false e =
            let idle : due_in work.due n ≡ false = e in
            let stands : Stands held block (suc n) work = record {
              fits = s.fits;
              begun = s.begun;
              under = s.under;
              working = s.working;
              within = λ m h d. within-next n work.span m (λ q. true≢false (sym (subst (λ (k : ℕ). due_in work.due k ≡ true) q d) ∙ idle)) (s.within m h d);
              to_in = s.to_in;
              high_in = s.high_in;
            } in
            rw e (record { room = room; stands = rw add-one stands; lighter = omega arith; progress = inr refl })
        go true e =
            let sent = takes e in
            let less = cleared-lighter (nodes_in plan) work room n node e in
            rw e
            (record {
              room = sent.0.room;
              stands = rw add-one (all-stands n (since_in (columns_of held) block (get_or work.words n 0)) _ sent.0);
              lighter = omega (arith, sent.1);
              progress = inl (omega (arith, sent.1));
            })
