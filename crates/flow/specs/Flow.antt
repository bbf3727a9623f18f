-- A flow: nodes with arrows, a state on arrival at each node, a step at each node, and a meeting of states.
-- Rule 7.1 without its ages: nothing here knows of caches, and sections 7 and 9 are then said of any states.
-- A choice: past the end of a table a cell is blank.
use Rattle.std.specs.Prelude.{Bool, List, ℕ, get_or}

-- Rule 7.1: what a table has at a node, nothing (it is unmarked) or a state (it is marked).
pub data Cell (X : Type 0) : Type 0 where
  blank : Cell X
  holds : X → Cell X

-- The cell of a node.
abbrev pub cell_at : {X : Type 0} → List (Cell X) → ℕ → Cell X
cell_at table n = get_or table n blank

-- What passes work on.
pub record Flow : Type 1 where
  -- a state
  pub State : Type 0
  pub nodes : ℕ
  pub entry : ℕ
  pub arrows : ℕ → List ℕ
  -- the state at the entry before any step, the state after a node's record, and the meeting of two states
  pub start : State
  pub step : ℕ → State → State
  pub meet : State → State → State
  -- whether two states are the same: it decides whether a meeting changed anything
  pub same : State → State → Bool
  -- which states a passing table may have, and when the second state allows all that the first does
  pub Ok : State → Type 0
  pub Below : State → State → Type 0

-- Rule 7.1: a cell for each node.
abbrev pub Table : Flow → Type 0
Table F = List (Cell F.State)
