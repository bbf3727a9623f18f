-- A node that is due, taken in lent buffers, is the node taken in the table; and the nodes that are due then are those whose rows have changed.
use Prim.Native.Nat.{ℕ, ◌*◌, ◌≤◌, ◌<◌}
use mathlib.Core.Bool.{Bool, true, false, cond, ◌||◌}
use mathlib.Core.List.{List, [], ◌∷◌}
use mathlib.Core.Logic.{inl, inr}
use mathlib.Core.Path.{◌≡◌, refl, sym, ap, subst, ◌∙◌}
use native.Mathlib.Omega.{arith}
use borrow.Author.Tests.{eq-eqb, ne_eqb}
use lib.Dec.{eqb}
use lib.ListN.{length, get_or}
use Rattle.lists.specs.Lists.{Among}
use Rattle.lists.proofs.Choice.{or-last, or-always}
use Rattle.lists.proofs.Listed.{length-list_of}
use Rattle.bits.specs.Bits.{is_member, without_member}
use Rattle.bits.proofs.Members.{member-put, member-out, put-length, out-length}
use Rattle.chart.specs.Record.{arrows_of}
use Rattle.cache.specs.Ages.{Ages}
use Rattle.flow.specs.Flow.{blank, holds, cell_at}
use Rattle.flow.specs.Passing.{Marked}
use Rattle.flow.specs.Pass.{Run, changes, met_at, put, put_all, take_with, take_node, after_passes}
use Rattle.flow.specs.Underway.{Underway}
use Rattle.flow.specs.Working.{Working, due_with, due_sent, due_taken}
use Rattle.flow.proofs.Settling.{take_nodes-later, after_passes-underway}
use Rattle.flow.proofs.Due.{due-visit}
use Rattle.ages.specs.Plan.{Plan, arrows_in, plan_flow}
use Rattle.ages.proofs.Ageing.{ages_laws}
use Rattle.plan.specs.Listed.{nodes_in, blocks_in, node_in, plan_in, Drawn}
use Rattle.plan.proofs.Holding.{arrows-held}
use Rattle.tables.specs.Lent.{Lent, ages_used, ages_at, table_of, over}
use Rattle.tables.specs.Inner.{LentRun, over_run, run_in, row_after, AgesAgree}
use Rattle.tables.specs.Fitting.{CellAgesFit, TableFits}
use Rattle.tables.proofs.Laid.{table_of-fits, table_of-at, table-over}
use Rattle.tables.proofs.Fitting.{step_fits, put-fits, take_node-fits}
use Rattle.tables.proofs.Meeting.{met-laid}
use Rattle.tables.proofs.After.{after-agrees}
use Rattle.settling.specs.Inner.{DueRun, run_of, after_meeting, sent_to, sent_all, StandsAt, TakenIn}

-- ---- a row sent to its targets

module _ (plan : Plan) (lent : Lent) (row a : Ages) (long : CellAgesFit plan (holds a)) (agree : AgesAgree plan.blocks row a) where
  -- What a pass works on, where a table is laid over what was lent.
  abbrev laid : Run Ages → List ℕ → DueRun
  laid run due = record { lent = over plan run.table lent; changed = run.changed; due = due }

  module _ (t : ℕ) (inside : t < plan.nodes) (run : Run Ages) (fits : TableFits plan run.table) (due : List ℕ) (room : plan.nodes ≤ 64 * length due) where
    abbrev moves : Bool
    moves = changes (plan_flow plan) (cell_at run.table t) a

    met-is : sent_to plan.blocks row t (laid run due) ≡ after_meeting t (laid run due) (over_run plan lent (record { table = met_at (plan_flow plan) run.table t a; changed = moves }))
    unfolding sent_to put
    met-is = ap (after_meeting t (laid run due)) (met-laid plan lent (record { table = run.table; changed = false }) fits t inside row a long agree)

    sent-run : run_of (sent_to plan.blocks row t (laid run due)) ≡ over_run plan lent (put (plan_flow plan) a t run)
    unfolding put
    sent-run = ap run_of met-is ∙ go moves
      where
        go : (b : Bool) → run_of (after_meeting t (laid run due) (over_run plan lent (record { table = met_at (plan_flow plan) run.table t a; changed = b }))) ≡ over_run plan lent (record { table = met_at (plan_flow plan) run.table t a; changed = run.changed || b })
        go true = rw (or-always run.changed)
        go false = rw (or-last run.changed)

    sent-due : (m : ℕ) → is_member (sent_to plan.blocks row t (laid run due)).due m ≡ due_with (plan_flow plan) run.table a t (is_member due) m
    sent-due m = ap (λ (r : DueRun). is_member r.due m) met-is ∙ go moves
      where
        go : (b : Bool) → is_member (after_meeting t (laid run due) (over_run plan lent (record { table = met_at (plan_flow plan) run.table t a; changed = b }))).due m ≡ (is_member due m || cond b (eqb m t) false)
        go true = member-put due t (omega arith) m
        go false = sym (or-last (is_member due m))

    sent-room : plan.nodes ≤ 64 * length (sent_to plan.blocks row t (laid run due)).due
    sent-room = subst (λ (r : DueRun). plan.nodes ≤ 64 * length r.due) (sym met-is) (go moves)
      where
        go : (b : Bool) → plan.nodes ≤ 64 * length (after_meeting t (laid run due) (over_run plan lent (record { table = met_at (plan_flow plan) run.table t a; changed = b }))).due
        go true = omega (arith, put-length due t)
        go false = room

    sent-laid : sent_to plan.blocks row t (laid run due) ≡ laid (put (plan_flow plan) a t run) (sent_to plan.blocks row t (laid run due)).due
    sent-laid = λ i. record { lent = (sent-run i).lent; changed = (sent-run i).changed; due = (sent_to plan.blocks row t (laid run due)).due }

  all-run : (ts : List ℕ) → ((t : ℕ) → Among t ts → t < plan.nodes) → (run : Run Ages) → TableFits plan run.table → (due : List ℕ) → plan.nodes ≤ 64 * length due
      → run_of (sent_all plan.blocks row ts (laid run due)) ≡ over_run plan lent (put_all (plan_flow plan) a ts run)
  unfolding put_all
  all-run [] inside run fits due room = refl
  all-run (t ∷ ts) inside run fits due room =
      ap (λ (r : DueRun). run_of (sent_all plan.blocks row ts r)) (sent-laid t (inside t (inl refl)) run fits due room)
      ∙ all-run ts (λ u i. inside u (inr i)) (put (plan_flow plan) a t run) (put-fits plan a t run long fits) (sent_to plan.blocks row t (laid run due)).due (sent-room t (inside t (inl refl)) run fits due room)

  all-due : (ts : List ℕ) → ((t : ℕ) → Among t ts → t < plan.nodes) → (run : Run Ages) → TableFits plan run.table → (due : List ℕ) → plan.nodes ≤ 64 * length due
      → (m : ℕ) → is_member (sent_all plan.blocks row ts (laid run due)).due m ≡ due_sent (plan_flow plan) a ts run.table (is_member due) m
  unfolding put
  all-due [] inside run fits due room m = refl
  all-due (t ∷ ts) inside run fits due room m =
      ap (λ (r : DueRun). is_member (sent_all plan.blocks row ts r).due m) (sent-laid t (inside t (inl refl)) run fits due room)
      ∙ all-due ts (λ u i. inside u (inr i)) (put (plan_flow plan) a t run) (put-fits plan a t run long fits) (sent_to plan.blocks row t (laid run due)).due (sent-room t (inside t (inl refl)) run fits due room) m
      ∙ (λ i. due_sent (plan_flow plan) a ts (met_at (plan_flow plan) run.table t a) (λ k. sent-due t (inside t (inl refl)) run fits due room k i) m)

-- ---- a node that is due

module _ (columns plan : List ℕ) (drawn : Drawn columns plan) (n : ℕ) (inside : n < nodes_in plan) (lent : Lent) (changed : Bool) (due : List ℕ)
    (stands : StandsAt (plan_in columns plan) n lent due) (room : nodes_in plan ≤ 64 * length due) (is-due : is_member due n ≡ true) where
  abbrev held : Plan
  held = plan_in columns plan

  abbrev run : Run Ages
  run = run_in held lent changed

  underway : Underway (plan_flow held) (ages_laws held drawn.sound) (table_of held lent)
  underway =
      let laws = ages_laws held drawn.sound in
      rw stands.table
      (take_nodes-later (plan_flow held) laws n (record { table = after_passes (plan_flow held) stands.made; changed = false }) (after_passes-underway (plan_flow held) laws stands.made)).underway

  marked : get_or lent.marks n 0 ≡ 0 → ⊥
  marked e =
      let cell : cell_at (table_of held lent) n ≡ blank = table_of-at held lent n inside ∙ (rw (eq-eqb (get_or lent.marks n 0) 0 e)) in
      subst Marked cell (stands.working.due-marked n inside is-due)

  cell : cell_at (table_of held lent) n ≡ holds (ages_at held lent n)
  cell = table_of-at held lent n inside ∙ (rw (ne_eqb (get_or lent.marks n 0) 0 marked))

  abbrev stepped : Ages
  stepped = (plan_flow held).step n (ages_at held lent n)

  long : CellAgesFit held (holds stepped)
  long = step_fits held n (ages_at held lent n) (length-list_of (blocks_in plan) _, length-list_of (blocks_in plan) _)

  -- The node is no longer due when it begins to send.
  left-room : nodes_in plan ≤ 64 * length (without_member n due)
  left-room = omega (arith, out-length due n, room)

  module _ (row : Ages) (agree : AgesAgree (blocks_in plan) row stepped) where
    abbrev sent : DueRun
    sent = sent_all (blocks_in plan) row (arrows_of (node_in plan n).targets) (record { lent = lent; changed = changed; due = without_member n due })

    abbrev after : DueRun
    after = sent_all (blocks_in plan) row (arrows_in held n) (laid held lent row stepped long agree run (without_member n due))

    as-laid : sent ≡ after
    as-laid = λ i. sent_all (blocks_in plan) row (sym (arrows-held columns plan n inside) i) (record { lent = stands.lies i; changed = changed; due = without_member n due })

    taken-run : run_of after ≡ over_run held lent (take_node (plan_flow held) n run)
    unfolding take_node take_with
    taken-run = rw cell (all-run held lent row stepped long agree (arrows_in held n) (λ t. drawn.sound.arrows-in n t inside) run (table_of-fits held lent) (without_member n due) left-room)

    taken-table : table_of held after.lent ≡ (take_node (plan_flow held) n run).table
    taken-table = ap (λ (r : LentRun). table_of held r.lent) taken-run ∙ table-over held (take_node-fits held n run (table_of-fits held lent)) lent

    still-due : (m : ℕ) → is_member after.due m ≡ due_taken (plan_flow held) n stepped (table_of held lent) (is_member due) m
    still-due m =
        all-due held lent row stepped long agree (arrows_in held n) (λ t. drawn.sound.arrows-in n t inside) run (table_of-fits held lent) (without_member n due) left-room m
        ∙ (λ i. due_sent (plan_flow held) stepped (arrows_in held n) (table_of held lent) (λ k. member-out due n (omega arith) is-due k i) m)

    taken-due : Working (plan_flow held) (take_node (plan_flow held) n run).table (due_taken (plan_flow held) n stepped (table_of held lent) (is_member due))
    unfolding take_node take_with
    taken-due =
        rw cell
        (due-visit (plan_flow held) (ages_laws held drawn.sound) (table_of held lent) (is_member due) changed underway stands.working n (ages_at held lent n) cell)

    taken-working : Working (plan_flow held) (table_of held after.lent) (is_member after.due)
    taken-working = rw taken-table (subst (Working (plan_flow held) (take_node (plan_flow held) n run).table) (λ i m. sym (still-due m) i) taken-due)

    pub due-taken : TakenIn held n (record { lent = lent; changed = changed; due = due }) sent
    due-taken = rw as-laid (record { taken = taken-run; working = taken-working })

  pub due-agrees : ages_used held ≤ length lent.must → ages_used held ≤ length lent.may → (row : Ages)
      → AgesAgree (blocks_in plan) row (row_after columns lent.must lent.may (blocks_in plan) n (node_in plan n).what) → AgesAgree (blocks_in plan) row stepped
  due-agrees must_room may_room row after = after-agrees columns plan drawn n inside lent must_room may_room row after
