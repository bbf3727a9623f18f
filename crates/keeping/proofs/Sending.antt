-- What is so while a node sends its word to its targets: a word that is put keeps it, and less is left to do.
use Prim.Native.Nat.{ℕ, suc, ◌^◌, ◌≤◌, ◌<◌}
use mathlib.Core.Bool.{Bool, true, false, not}
use mathlib.Core.List.{List, [], ◌∷◌}
use mathlib.Core.Logic.{◌⊎◌, inl, inr, ⊎_elim}
use mathlib.Core.Path.{◌≡◌, refl, sym, ap, subst, ◌∙◌}
use native.Mathlib.Decide.{ℕ_discrete}
use native.Mathlib.Omega.{arith}
use native.Mathlib.Nat.{lt_of_lt_of_le}
use borrow.Author.Tests.{eqb-true, eqb-false, not-false}
use lib.Bits.{bit_or, or_lt}
use lib.Dec.{eqb}
use lib.ListN.{get_or, set, length, length-set}
use lib.Pow.{pow_mono}
use lib.Seq.{get_or-set_same, get_or-set_other}
use Rattle.lists.specs.Lists.{Among}
use Rattle.lists.proofs.Choice.{or-false}
use Rattle.chart.specs.Geometry.{most_blocks}
use Rattle.flow.specs.Flow.{Cell, Table}
use Rattle.flow.specs.Pass.{met_at}
use Rattle.flow.specs.Underway.{Underway, Meetable}
use Rattle.flow.specs.Working.{Sending, DueAfter}
use Rattle.flow.proofs.Settling.{met_at-underway}
use Rattle.flow.proofs.Working.{sending-sends}
use Rattle.ages.specs.Plan.{Plan, Sound, columns_of}
use Rattle.kept.specs.Since.{Since}
use Rattle.kept.specs.Kept.{kept_flow}
use Rattle.kept.proofs.Lawful.{kept_laws}
use Rattle.keeping.specs.Words.{since_in}
use Rattle.keeping.specs.Work.{Work, Roomy, span_with, changes_at, put_word, sent_all}
use Rattle.keeping.specs.Flood.{table_in, due_in, WordsFit, Within, weight_of}
use Rattle.keeping.proofs.Tables.{table-met, table_same}
use Rattle.keeping.proofs.Spans.{span-has, span-keeps, span-inside}
use Rattle.keeping.proofs.Weights.{put-lighter}

-- The table of a work.
abbrev pub table_of : Plan → ℕ → Work → List (Cell Since)
table_of plan block work = table_in plan block work.marks work.words

-- Node n, with the state x when its turn began, has still to send to some targets.
pub record Sent (plan : Plan) (sound : Sound plan) (block n : ℕ) (x : Since) (unsent : List ℕ) (work : Work) : Type 0 where
  pub room : Roomy plan.nodes work.marks work.words work.due
  pub fits : WordsFit plan work.marks work.words
  pub underway : Underway (kept_flow plan block) (kept_laws plan sound block) (table_of plan block work)
  pub sending : Sending (kept_flow plan block) (table_of plan block work) (due_in work.due) n x unsent
  pub within : (m : ℕ) → m < plan.nodes → due_in work.due m ≡ true → Within (suc n) work.span m
  pub to_in : work.span.to ≤ plan.nodes
  pub high_in : work.span.high ≤ plan.nodes

-- ---- which nodes are due after a store

module _ (due : List Bool) (t : ℕ) where
  pub due-stored : (v : Bool) (m : ℕ) → (m ≡ t → ⊥) → due_in (set due t v) m ≡ due_in due m
  due-stored v m e = get_or-set_other due t m v false e

  due-here : t < length due → due_in (set due t true) t ≡ true
  due-here h = get_or-set_same due t true false h

  due-still : t < length due → (m : ℕ) → due_in due m ≡ true → due_in (set due t true) m ≡ true
  due-still h m d = go (ℕ_discrete m t)
    where
      go : Dec (m ≡ t) → due_in (set due t true) m ≡ true
      go (yes e) = rw e (due-here h)
      go (no e) = due-stored true m e ∙ d

  due-new : (m : ℕ) → due_in (set due t true) m ≡ true → (due_in due m ≡ true) ⊎ (m ≡ t)
  due-new m d = go (ℕ_discrete m t)
    where
      go : Dec (m ≡ t) → (due_in due m ≡ true) ⊎ (m ≡ t)
      go (yes e) = inr e
      go (no e) = inl (sym (due-stored true m e) ∙ d)

-- ---- a word is put

module _ (plan : Plan) (sound : Sound plan) (few : plan.blocks ≤ most_blocks) (block n : ℕ) (x : Since) (out : ℕ) (small : out < 2 ^ plan.blocks)
    (steps : since_in (columns_of plan) block out ≡ (kept_flow plan block).step n x) where
  abbrev met_to : Table (kept_flow plan block) → ℕ → Table (kept_flow plan block)
  met_to T t = met_at (kept_flow plan block) T t ((kept_flow plan block).step n x)

  -- What a put leaves, where it changes something.
  abbrev changed : ℕ → Work → Work
  changed t work =
      record {
        marks = set work.marks t 1;
        words = set work.words t (bit_or (get_or work.words t 0) out);
        due = set work.due t true;
        span = span_with n t work.span;
      }

  put-either : (P : Work → Type 0) (t : ℕ) (work : Work) → (changes_at out t work ≡ true → P (changed t work)) → (changes_at out t work ≡ false → P work) → P (put_word n out t work)
  unfolding put_word
  put-either P t work yes-changes no_change = go (changes_at out t work) refl
    where
      go : (b : Bool) → changes_at out t work ≡ b → P (put_word n out t work)
      go true e = rw e (yes-changes e)
      go false e = rw e (no_change e)

  module _ (t : ℕ) (ts : List ℕ) (work : Work) (s : Sent plan sound block n x (t ∷ ts) work) (inside : t < plan.nodes)
      (meets : Meetable (kept_flow plan block) (kept_laws plan sound block) t ((kept_flow plan block).step n x)) where
    -- a table that is the one met, with nodes due as they may be
    met-sent : (after : Work) → table_of plan block after ≡ met_to (table_of plan block work) t
        → DueAfter (kept_flow plan block) (table_of plan block work) (due_in work.due) (due_in after.due) t (met_to (table_of plan block work) t)
        → Underway (kept_flow plan block) (kept_laws plan sound block) (table_of plan block after) × Sending (kept_flow plan block) (table_of plan block after) (due_in after.due) n x ts
    met-sent after e d = (
      subst (Underway (kept_flow plan block) (kept_laws plan sound block)) (sym e)
          (met_at-underway (kept_flow plan block) (kept_laws plan sound block) (table_of plan block work) t ((kept_flow plan block).step n x) s.underway meets),
      subst (λ (T : Table (kept_flow plan block)). Sending (kept_flow plan block) T (due_in after.due) n x ts) (sym e)
          (sending-sends (kept_flow plan block) (kept_laws plan sound block) (table_of plan block work) (due_in work.due) (due_in after.due) n x t ts s.underway meets s.sending d),
    )

    put-changes : changes_at out t work ≡ true → Sent plan sound block n x ts (changed t work)
    put-changes e =
        let table : table_of plan block (changed t work) ≡ met_to (table_of plan block work) t =
        table-met plan block work.marks work.words t inside s.room.marks_room s.room.words_room (s.fits.bare t inside) out
        ∙ ap (λ (y : Since). met_at (kept_flow plan block) (table_of plan block work) t y) steps in
        let there : t < length work.due = omega (arith, s.room.due_room) in
        let both = met-sent (changed t work) table (record { still-due = due-still work.due t there; newly-due = due-new work.due t; due-or-same = inl (due-here work.due t there) }) in
        let spanned = span-inside n t work.span plan.nodes inside s.to_in s.high_in in
        record {
          room =
              record {
                marks_room = omega (arith, s.room.marks_room, length-set work.marks t 1);
                words_room = omega (arith, s.room.words_room, length-set work.words t (bit_or (get_or work.words t 0) out));
                due_room = omega (arith, s.room.due_room, length-set work.due t true);
              };
          fits = record { small = λ m h. small-after m h (ℕ_discrete m t); bare = λ m h q. bare-after m h (ℕ_discrete m t) q };
          underway = both.0;
          sending = both.1;
          within = λ m h d. ⊎_elim (λ (was : due_in work.due m ≡ true). span-keeps n t work.span m (s.within m h was)) (λ (q : m ≡ t). rw q (span-has n t work.span)) (due-new work.due t m d);
          to_in = spanned.0;
          high_in = spanned.1;
        }
      where
        small-after : (m : ℕ) → m < plan.nodes → Dec (m ≡ t) → get_or (set work.words t (bit_or (get_or work.words t 0) out)) m 0 < 2 ^ plan.blocks
        small-after m h (yes q) =
            rw (q, get_or-set_same work.words t (bit_or (get_or work.words t 0) out) 0 (omega (arith, s.room.words_room)))
            (or_lt plan.blocks (get_or work.words t 0) out (s.fits.small t inside) small)
        small-after m h (no q) = rw (get_or-set_other work.words t m (bit_or (get_or work.words t 0) out) 0 q) (s.fits.small m h)

        bare-after : (m : ℕ) → m < plan.nodes → Dec (m ≡ t) → get_or (set work.marks t 1) m 0 ≡ 0 → get_or (set work.words t (bit_or (get_or work.words t 0) out)) m 0 ≡ 0
        bare-after m h (yes q) e =
            let one : get_or (set work.marks t 1) m 0 ≡ 1 = rw (q, get_or-set_same work.marks t 1 0 (omega (arith, s.room.marks_room))) in
            absurd (omega arith)
        bare-after m h (no q) e =
            get_or-set_other work.words t m (bit_or (get_or work.words t 0) out) 0 q ∙ s.fits.bare m h (sym (get_or-set_other work.marks t m 1 0 q) ∙ e)

    put-stays : changes_at out t work ≡ false → Sent plan sound block n x ts work
    put-stays e =
        let both = or-false (not (eqb (bit_or (get_or work.words t 0) out) (get_or work.words t 0))) (eqb (get_or work.marks t 0) 0) e in
        let same : bit_or (get_or work.words t 0) out ≡ get_or work.words t 0 = eqb-true (bit_or (get_or work.words t 0) out) (get_or work.words t 0) (not-false (eqb (bit_or (get_or work.words t 0) out) (get_or work.words t 0)) both.0) in
        let table : table_of plan block work ≡ met_to (table_of plan block work) t =
        sym (ap (λ (y : Since). met_at (kept_flow plan block) (table_of plan block work) t y) (sym steps) ∙ table_same plan block work.marks work.words t inside (eqb-false (get_or work.marks t 0) 0 both.1) out same) in
        let sent = met-sent work table (record { still-due = λ m d. d; newly-due = λ m d. inl d; due-or-same = inr (sym table) }) in
        record { room = s.room; fits = s.fits; underway = sent.0; sending = sent.1; within = s.within; to_in = s.to_in; high_in = s.high_in }

    pub put-sent : Sent plan sound block n x ts (put_word n out t work) × (weight_of plan.nodes (put_word n out t work) ≤ weight_of plan.nodes work)
    put-sent =
        put-either (λ (after : Work). Sent plan sound block n x ts after × (weight_of plan.nodes after ≤ weight_of plan.nodes work)) t work
        (λ e. (put-changes e, put-lighter plan.nodes work s.room n out t inside (lt_of_lt_of_le (s.fits.small t inside) (pow_mono few)) e))
        (λ e. (put-stays e, omega arith))

  -- The word is sent to all targets.
  pub all-sent : (ts : List ℕ) (work : Work) → Sent plan sound block n x ts work → ((t : ℕ) → Among t ts → t < plan.nodes)
      → ((t : ℕ) → Among t ts → Meetable (kept_flow plan block) (kept_laws plan sound block) t ((kept_flow plan block).step n x))
      → Sent plan sound block n x [] (sent_all n out ts work) × (weight_of plan.nodes (sent_all n out ts work) ≤ weight_of plan.nodes work)
  all-sent [] work s inside meets = (s, omega arith)
  all-sent (t ∷ ts) work s inside meets =
      let one = put-sent t ts work s (inside t (inl refl)) (meets t (inl refl)) in
      let rest = all-sent ts (put_word n out t work) one.0 (λ u i. inside u (inr i)) (λ u i. meets u (inr i)) in
      (rest.0, omega (arith, one.1, rest.1))
