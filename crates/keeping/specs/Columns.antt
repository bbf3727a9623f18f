-- What functions ask that read records of a plan, or the lists of blocks that share words.
-- Nothing here is a rule of the tool: contracts of inner functions and laws speak of it.
use Rattle.std.specs.Prelude.{ℕ, ◌≤◌, ◌<◌, List, length}
use Rattle.chart.specs.Geometry.{most_blocks}
use Rattle.plan.specs.Listed.{nodes_in, blocks_in, node_place, node_in, RecordIn}
use Rattle.keeping.specs.declared.words.Group.{Group as HeldGroup}
use Rattle.keeping.specs.Words.{Group, Grouped, TouchableBy}

-- Each node stands in the list, with two of the columns that there can be.
pub record RecordsRead (plan : List ℕ) : Type 0 where
  pub plan_long : node_place (nodes_in plan) ≤ length plan
  pub records-in : (n : ℕ) → n < nodes_in plan → RecordIn most_blocks (node_in plan n).what

-- Each node's record has columns below a count; or such as can be touched.
abbrev pub RecordsIn : ℕ → List ℕ → ℕ → Type 0
RecordsIn count plan nodes = (n : ℕ) → n < nodes → RecordIn count (node_in plan n).what

abbrev pub RecordsTouchable : Group → List ℕ → ℕ → Type 0
RecordsTouchable group plan nodes = (n : ℕ) → n < nodes → TouchableBy group (node_in plan n).what

-- The lists as a group; and the group that a struct holds.
abbrev pub group_of : List ℕ → List ℕ → List ℕ → Group
group_of columns chosen sets = record { columns = columns; chosen = chosen; sets = sets }

abbrev pub group_at : HeldGroup → Group
group_at held = group_of held.columns.now held.chosen held.sets.now

-- The blocks of a plan are such a group.
abbrev pub GroupIn : HeldGroup → List ℕ → Type 0
GroupIn held plan = Grouped (blocks_in plan) (group_at held)
