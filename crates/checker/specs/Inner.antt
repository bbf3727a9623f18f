-- What the checker's functions and laws ask of one another: room for what they look at, and an answer by its tests. Nothing here is a rule of
-- the tool.
use Rattle.std.specs.Prelude.{ℕ, ◌+◌, ◌*◌, ◌≤◌, ◌<◌, Bool, cond, length, Err, Ok, Result}
use Rattle.refusals.specs.declared.Refusal.TheVariants.{ShortBuffer}
use Rattle.chart.specs.Geometry.{most_blocks}
use Rattle.chart.specs.Record.{Leads}
use Rattle.chart.specs.declared.records.Targets.{Targets}
use Rattle.tables.specs.Lent.{Lent}
use Rattle.tables.specs.Inner.{Roomy}
use Rattle.refusals.specs.declared.Refusal.{Refusal}

-- Row t of so many ages, and its mark, are there.
pub record RowIn (count : ℕ) (lent : Lent) (t : ℕ) : Type 0 where
  pub few : count ≤ most_blocks
  pub must_in : t * count + count ≤ length lent.must
  pub may_in : t * count + count ≤ length lent.may
  pub mark_in : t < length lent.marks

-- So are those of a node's targets: they are among some number of nodes, and there is room for as many.
pub record TargetsIn (count : ℕ) (lent : Lent) (targets : Targets) : Type 0 where
  pub nodes : ℕ
  pub few : count ≤ most_blocks
  pub leads : Leads nodes targets
  pub roomy : Roomy nodes count lent.must lent.may lent.marks

-- The answer by whether the table is short, and whether it passes.
abbrev pub answer_of : Bool → Bool → Result Bool Refusal
answer_of short passing = cond short (Err ShortBuffer) (Ok passing)
