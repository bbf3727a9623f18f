-- What the lent slices of a contract hold, put together: a table's three, at entry and at exit. Nothing here is a rule of the tool: contracts say in
-- a line what they promise.
use Rattle.std.specs.Prelude.{Bool, List, ℕ}
use Rattle.plan.specs.Listed.{nodes_in, blocks_in}
use Rattle.tables.specs.Lent.{Lent}
use Rattle.tables.specs.Inner.{LentRun, Roomy}

-- In a `requires`.
abbrev pub lent_table : List ℕ → List ℕ → List ℕ → Lent
lent_table must may marks = record { must = must; may = may; marks = marks }

-- In an `ensures`.
abbrev pub entry_table : List ℕ → List ℕ → List ℕ → Lent
entry_table must may marks = lent_table must may marks

abbrev pub exit_table : List ℕ → List ℕ → List ℕ → Lent
exit_table must may marks = lent_table must may marks

-- A table, and whether anything has changed.
abbrev pub entry_run : List ℕ → List ℕ → List ℕ → Bool → LentRun
entry_run must may marks changed = record { lent = entry_table must may marks; changed = changed }

abbrev pub exit_run : List ℕ → List ℕ → List ℕ → Bool → LentRun
exit_run must may marks changed = record { lent = exit_table must may marks; changed = changed }

-- There is room for the table of a plan.
abbrev pub RoomFor : List ℕ → List ℕ → List ℕ → List ℕ → Type 0
RoomFor plan must may marks = Roomy (nodes_in plan) (blocks_in plan) must may marks
