-- What passes over lent tables promise: the buffers hold, at each point, the table that `flow` defines. Nothing here is a rule of the tool:
-- rules 9.1 to 9.5 are in `flow`.
use Rattle.std.specs.Prelude.{ℕ, ◌*◌, ◌≤◌, Bool, true, false, cond, ◌≡◌, List, [], ◌∷◌, length, None, Option, Some}
use Rattle.bits.specs.Bits.{is_member, with_member}
use Rattle.cache.specs.Ages.{Ages}
use Rattle.flow.specs.Pass.{Outcome, settled, spent, take_node, take_nodes, pass, before, after_passes, settle}
use Rattle.flow.specs.Working.{Working}
use Rattle.ages.specs.Plan.{Plan, plan_flow}
use Rattle.tables.specs.Lent.{Lent, table_of, over}
use Rattle.tables.specs.Inner.{LentRun, over_run, run_in, met_into}
use Rattle.tables.specs.Contract.{lent_table, entry_table, exit_table}

-- What a pass works on: a lent table, whether anything has changed, and the set of the nodes that are due.
pub record DueRun : Type 0 where
  pub lent : Lent
  pub changed : Bool
  pub due : List ℕ

-- Without the set.
abbrev pub run_of : DueRun → LentRun
run_of run = record { lent = run.lent; changed = run.changed }

-- A row has been met into that of t: where that was a change, t is due.
abbrev pub after_meeting : ℕ → DueRun → LentRun → DueRun
after_meeting t run met =
    cond met.changed (record { lent = met.lent; changed = true; due = with_member t run.due })
    (record { lent = met.lent; changed = run.changed; due = run.due })

-- Ages met into the row of t.
unfoldable pub sent_to : ℕ → Ages → ℕ → DueRun → DueRun
sent_to count a t run = after_meeting t run (met_into count t a (record { lent = run.lent; changed = false }))

-- Ages met into the rows of some nodes, one after the other.
abbrev pub sent_all : ℕ → Ages → List ℕ → DueRun → DueRun
sent_all count a [] run = run
sent_all count a (t ∷ ts) run = sent_all count a ts (sent_to count a t run)

-- The buffers hold a table: they are its layout.
abbrev pub Lies : Plan → Lent → Type 0
Lies plan lent = lent ≡ over plan (table_of plan lent) lent

-- The buffers hold the table before the first pass.
abbrev pub Begun : Plan → Lent → Type 0
Begun plan lent = lent ≡ over plan (before (plan_flow plan)) lent

-- The buffers hold a table as it is when the turn of node n comes in some pass, and what any node brings that is not due has been brought.
pub record StandsAt (plan : Plan) (n : ℕ) (lent : Lent) (due : List ℕ) : Type 0 where
  pub lies : Lies plan lent
  pub made : ℕ
  pub table : table_of plan lent ≡ (take_nodes (plan_flow plan) n (record { table = after_passes (plan_flow plan) made; changed = false })).table
  pub working : Working (plan_flow plan) (table_of plan lent) (is_member due)

-- Node n is taken, and every node that is not in the set then has brought what it brings.
pub record TakenIn (plan : Plan) (n : ℕ) (before after : DueRun) : Type 0 where
  pub taken : run_of after ≡ over_run plan before.lent (take_node (plan_flow plan) n (run_in plan before.lent before.changed))
  pub working : Working (plan_flow plan) (table_of plan after.lent) (is_member after.due)

-- In a pass that began with the table that was lent, the nodes before n have had their turns, and every node that is not in the set has brought what it brings.
pub record GoneTo (plan : Plan) (lent : Lent) (n : ℕ) (run : DueRun) : Type 0 where
  pub gone : run_of run ≡ over_run plan lent (take_nodes (plan_flow plan) n (run_in plan lent false))
  pub working : Working (plan_flow plan) (take_nodes (plan_flow plan) n (run_in plan lent false)).table (is_member run.due)

-- A pass is made, and every node that is not in the set then has brought what it brings.
pub record PassedIn (plan : Plan) (lent : Lent) (after : DueRun) : Type 0 where
  pub passed : run_of after ≡ over_run plan lent (pass (plan_flow plan) (table_of plan lent))
  pub working : Working (plan_flow plan) (table_of plan after.lent) (is_member after.due)

-- The same of slices, as a `requires` and an `ensures` name them.
abbrev pub BegunIn : Plan → List ℕ → List ℕ → List ℕ → Type 0
BegunIn plan must may marks = Begun plan (lent_table must may marks)

abbrev pub StandsIn : Plan → ℕ → List ℕ → List ℕ → List ℕ → List ℕ → Type 0
StandsIn plan n must may marks due = StandsAt plan n (lent_table must may marks) due

abbrev pub entry_due : List ℕ → List ℕ → List ℕ → List ℕ → Bool → DueRun
entry_due must may marks due changed = record { lent = entry_table must may marks; changed = changed; due = due }

abbrev pub exit_due : List ℕ → List ℕ → List ℕ → List ℕ → Bool → DueRun
exit_due must may marks due changed = record { lent = exit_table must may marks; changed = changed; due = due }

-- There is room for a set of nodes.
abbrev pub SetFor : ℕ → List ℕ → Type 0
SetFor nodes due = nodes ≤ 64 * length due

-- How many passes have been made, and what that tells of settling.
abbrev pub passes_made : ℕ → Option ℕ → ℕ
passes_made allowance (Some passes) = passes
passes_made allowance None = allowance

abbrev pub outcome_of : Plan → Option ℕ → Outcome Ages
outcome_of plan (Some passes) = settled passes (after_passes (plan_flow plan) passes)
outcome_of plan None = spent

-- What settling answers and leaves: the outcome that is defined, and the table after as many passes as were made.
pub record SettledIn (plan : Plan) (allowance : ℕ) (lent : Lent) (answer : Option ℕ) (left : Lent) : Type 0 where
  pub answered : outcome_of plan answer ≡ settle (plan_flow plan) allowance
  pub table : left ≡ over plan (after_passes (plan_flow plan) (passes_made allowance answer)) lent
