-- Passes over lent buffers, step by step: what the buffers hold after a node, after a pass and after so many passes.
use Prim.Native.Nat.{ℕ, ◌+◌, ◌-◌, ◌*◌, ◌≤◌, ◌<◌}
use mathlib.Core.Bool.{Bool, false}
use mathlib.Core.List.{List}
use mathlib.Core.Logic.{⊎_elim}
use mathlib.Core.Path.{◌≡◌, sym, ap, subst, ◌∙◌}
use native.Mathlib.Numerals.{add-one}
use native.Mathlib.Omega.{arith}
use lib.ListN.{replicate, length-replicate}
use Rattle.lists.proofs.Orders.{below_or}
use Rattle.bits.specs.Bits.{is_member, with_member, FirstFrom}
use Rattle.bits.proofs.Members.{member-put, none-member}
use Rattle.cache.specs.Ages.{Ages}
use Rattle.cache.proofs.Rows.{ages-same}
use Rattle.flow.specs.Flow.{Cell}
use Rattle.flow.specs.Pass.{Run, take_node, take_nodes, pass, after_passes}
use Rattle.flow.specs.Underway.{Underway}
use Rattle.flow.specs.Working.{Working}
use Rattle.flow.proofs.Settling.{take_nodes-later, after_passes-underway}
use Rattle.flow.proofs.Due.{clean-stretch, begun-working}
use Rattle.ages.specs.Plan.{Plan, plan_flow, Sound}
use Rattle.ages.proofs.Ageing.{ages_laws}
use Rattle.tables.specs.Lent.{Lent, table_of, over}
use Rattle.tables.specs.Inner.{LentRun, over_run, run_in}
use Rattle.tables.specs.Fitting.{TableFits}
use Rattle.tables.proofs.Laid.{table_of-fits, table-over, over-over}
use Rattle.tables.proofs.Fitting.{take_node-fits, take_nodes-fits, pass_fits, after_passes-fits}
use Rattle.settling.specs.Inner.{DueRun, run_of, Lies, StandsAt, TakenIn, GoneTo, PassedIn}

module _ (plan : Plan) (lent held : Lent) (table : List (Cell Ages)) (fits : TableFits plan table) (holding : held ≡ over plan table lent) where
  -- Buffers that hold a table over what was lent hold it, and what is laid over them is laid over what was lent.
  pub held-table : table_of plan held ≡ table
  held-table = ap (table_of plan) holding ∙ table-over plan fits lent

  held-over : (other : List (Cell Ages)) → TableFits plan other → over plan other held ≡ over plan other lent
  held-over other s = ap (over plan other) holding ∙ over-over plan fits s lent

  pub held-lies : Lies plan held
  held-lies = holding ∙ sym (ap (λ (t : List (Cell Ages)). over plan t held) held-table ∙ held-over table fits)

  -- So a step made on them is the step made on the table.
  pub held-step : (changed : Bool) (go : Run Ages → Run Ages) → ((run : Run Ages) → TableFits plan run.table → TableFits plan (go run).table)
      → over_run plan held (go (run_in plan held changed)) ≡ over_run plan lent (go (record { table = table; changed = changed }))
  held-step changed go keeps =
      ap (λ (t : List (Cell Ages)). over_run plan held (go (record { table = t; changed = changed }))) held-table
      ∙ (λ i. record { lent = held-over (go (record { table = table; changed = changed })).table (keeps (record { table = table; changed = changed }) fits) i; changed = (go (record { table = table; changed = changed })).changed })

module _ (plan : Plan) (sound : Sound plan) (lent : Lent) (due : List ℕ) (stands : StandsAt plan 0 lent due) where
  -- ---- a pass

  abbrev first : Run Ages
  first = run_in plan lent false

  begun-table : table_of plan lent ≡ after_passes (plan_flow plan) stands.made
  unfolding take_nodes
  begun-table = stands.table

  underway : (n : ℕ) → Underway (plan_flow plan) (ages_laws plan sound) (take_nodes (plan_flow plan) n first).table
  underway n =
      (take_nodes-later (plan_flow plan) (ages_laws plan sound) n first (rw begun-table (after_passes-underway (plan_flow plan) (ages_laws plan sound) stands.made))).underway

  taken-fits : (n : ℕ) → TableFits plan (take_nodes (plan_flow plan) n first).table
  taken-fits n = take_nodes-fits plan n first (table_of-fits plan lent)

  pub pass-begins : GoneTo plan lent 0 (record { lent = lent; changed = false; due = due })
  unfolding take_nodes
  pass-begins = record { gone = λ i. record { lent = stands.lies i; changed = false }; working = stands.working }

  module _ (n : ℕ) (run : DueRun) (so_far : GoneTo plan lent n run) where
    held-is : run.lent ≡ over plan (take_nodes (plan_flow plan) n first).table lent
    held-is = ap (λ (r : LentRun). r.lent) so_far.gone

    table_is : table_of plan run.lent ≡ (take_nodes (plan_flow plan) n first).table
    table_is = held-table plan lent run.lent (take_nodes (plan_flow plan) n first).table (taken-fits n) held-is

    pub pass-stands : StandsAt plan n run.lent run.due
    pass-stands = record {
      lies = held-lies plan lent run.lent (take_nodes (plan_flow plan) n first).table (taken-fits n) held-is;
      made = stands.made;
      table = table_is ∙ ap (λ (T : List (Cell Ages)). (take_nodes (plan_flow plan) n (record { table = T; changed = false })).table) begun-table;
      working = rw table_is so_far.working;
    }

    -- The node at hand is taken.
    turn-gone : (after : DueRun) → TakenIn plan n run after → run_of after ≡ over_run plan lent (take_nodes (plan_flow plan) (n + 1) first)
    unfolding take_nodes
    turn-gone after t =
        t.taken
        ∙ held-step plan lent run.lent (take_nodes (plan_flow plan) n first).table (taken-fits n) held-is run.changed (take_node (plan_flow plan) n) (take_node-fits plan n)
        ∙ ap (λ (c : Bool). over_run plan lent (take_node (plan_flow plan) n (record { table = (take_nodes (plan_flow plan) n first).table; changed = c }))) (ap (λ (r : LentRun). r.changed) so_far.gone)
        ∙ rw add-one

    pub pass-turn : (after : DueRun) → TakenIn plan n run after → GoneTo plan lent (n + 1) after
    pass-turn after t =
        let gone = turn-gone after t in
        let table = held-table plan lent after.lent (take_nodes (plan_flow plan) (n + 1) first).table (taken-fits (n + 1)) (ap (λ (r : LentRun). r.lent) gone) in
        record { gone = gone; working = subst (λ (T : List (Cell Ages)). Working (plan_flow plan) T (is_member after.due)) table t.working }

    -- The nodes before the next that is due are passed over.
    pub pass-skips : (next : ℕ) → n ≤ plan.nodes → FirstFrom run.due n plan.nodes next → GoneTo plan lent next run
    pass-skips next h f =
        let on : n ≤ next = ⊎_elim (λ (l : next < plan.nodes). (f.is_in_set l).0) (λ (l : plan.nodes ≤ next). omega arith) (below_or next plan.nodes) in
        let end : n + (next - n) ≡ next = omega arith in
        let same : take_nodes (plan_flow plan) next first ≡ take_nodes (plan_flow plan) n first = rw end at
        (clean-stretch (plan_flow plan) (ages_laws plan sound) ages-same first (is_member run.due) n (underway n) so_far.working (next - n) (omega (arith, f.within)) (λ m l k. f.none_before m l (omega arith))) in
        record { gone = rw same so_far.gone; working = rw same so_far.working }

    pub pass-ends : n ≡ plan.nodes → PassedIn plan lent run
    unfolding pass
    pass-ends e = record { passed = rw e at so_far.gone; working = rw table_is so_far.working }

module _ (plan : Plan) (lent : Lent) where
  -- ---- passes

  module _ (made : ℕ) (held : Lent) (due : List ℕ) (so_far : held ≡ over plan (after_passes (plan_flow plan) made) lent) (working : Working (plan_flow plan) (after_passes (plan_flow plan) made) (is_member due)) where
    made_table : table_of plan held ≡ after_passes (plan_flow plan) made
    made_table = held-table plan lent held (after_passes (plan_flow plan) made) (after_passes-fits plan made) so_far

    pub passes-stand : StandsAt plan 0 held due
    unfolding take_nodes
    passes-stand = record {
      lies = held-lies plan lent held (after_passes (plan_flow plan) made) (after_passes-fits plan made) so_far;
      made = made;
      table = made_table;
      working = rw made_table working;
    }

    module _ (after : DueRun) (passed : PassedIn plan held after) where
      pub passes-turn : run_of after ≡ over_run plan lent (pass (plan_flow plan) (after_passes (plan_flow plan) made))
      passes-turn =
          passed.passed
          ∙ held-step plan lent held (after_passes (plan_flow plan) made) (after_passes-fits plan made) so_far false (λ run. pass (plan_flow plan) run.table) (λ run. pass_fits plan run.table)

      pub passes-table : after.lent ≡ over plan (after_passes (plan_flow plan) (made + 1)) lent
      unfolding after_passes
      passes-table = ap (λ (r : LentRun). r.lent) passes-turn ∙ rw add-one

      pub passes-work : Working (plan_flow plan) (after_passes (plan_flow plan) (made + 1)) (is_member after.due)
      passes-work =
          subst (λ (T : List (Cell Ages)). Working (plan_flow plan) T (is_member after.due))
          (held-table plan lent after.lent (after_passes (plan_flow plan) (made + 1)) (after_passes-fits plan (made + 1)) passes-table) passed.working

-- Before the first pass the entry alone is due.
pub passes-begin : (plan : Plan) → Sound plan → (words : ℕ) → plan.nodes ≤ 64 * words → Working (plan_flow plan) (after_passes (plan_flow plan) 0) (is_member (with_member plan.entry (replicate words 0)))
unfolding after_passes
passes-begin plan sound words room =
    begun-working (plan_flow plan) (ages_laws plan sound) (is_member (with_member plan.entry (replicate words 0)))
    (λ m.
    member-put (replicate words 0) plan.entry (let h = sound.entry_inside in rw length-replicate (omega arith)) m
    ∙ (rw (none-member words m)))
