-- Passes and settling, of any flow. Rules 9.1 to 9.5, 6.6, 6.7 and 11.12.
-- Choices: a change is told by what a cell holds afterwards, and not by whether it was met; an allowance of no pass is spent at once.
use Rattle.std.specs.Prelude.{Bool, true, false, not, ◌||◌, List, [], ◌∷◌, ℕ, zero, suc, set, replicate}
use Rattle.flow.specs.Flow.{Cell, blank, holds, cell_at, Flow, Table}

-- A table, and whether anything has changed.
pub record Run (X : Type 0) : Type 0 where
  pub table : List (Cell X)
  pub changed : Bool

-- Rules 9.5 and 11.12: settled after so many passes, or not within the allowance.
pub data Outcome (X : Type 0) : Type 0 where
  settled : ℕ → List (Cell X) → Outcome X
  spent : Outcome X

module _ (F : Flow) where
  -- Rules 6.6 and 9.4: what a cell holds when a state has come to it. A blank one is not met.
  unfoldable pub met : Cell F.State → F.State → Cell F.State
  met blank a = holds a
  met (holds b) a = holds (F.meet b a)

  -- Rule 9.4: whether that is a change.
  unfoldable pub changes : Cell F.State → F.State → Bool
  changes blank a = true
  changes (holds b) a = not (F.same (F.meet b a) b)

  -- Rule 9.4, in a table: a state comes to t.
  unfoldable pub met_at : Table F → ℕ → F.State → Table F
  met_at table t a = set table t (met (cell_at table t) a)

  -- Rule 9.4: the same, and the changed flag.
  unfoldable pub put : F.State → ℕ → Run F.State → Run F.State
  put a t run =
      record { table = met_at run.table t a; changed = run.changed || changes (cell_at run.table t) a }

  -- Rule 9.3: one state goes to each target in turn.
  unfoldable pub put_all : F.State → List ℕ → Run F.State → Run F.State
  put_all a [] run = run
  put_all a (t ∷ ts) run = put_all a ts (put a t run)

  -- Rule 9.3: the state after the record, one for all arrows. A node without a mark sends nothing.
  unfoldable pub take_with : ℕ → Cell F.State → Run F.State → Run F.State
  take_with n blank run = run
  take_with n (holds a) run = put_all (F.step n a) (F.arrows n) run

  -- Rule 9.2: a node's turn goes by what it holds when that comes.
  unfoldable pub take_node : ℕ → Run F.State → Run F.State
  take_node n run = take_with n (cell_at run.table n) run

  -- Rule 9.2: the turns of nodes 0 to n - 1, in that order.
  unfoldable pub take_nodes : ℕ → Run F.State → Run F.State
  take_nodes zero run = run
  take_nodes (suc n) run = take_node n (take_nodes n run)

  -- Rule 9.2: a pass, which begins with nothing changed.
  unfoldable pub pass : Table F → Run F.State
  pass table = take_nodes F.nodes (record { table = table; changed = false })

  -- Rule 9.1: the table before the first pass. The entry has the start from here on, and what arrows bring is met into that (rule 6.7).
  unfoldable pub before : Table F
  before = set (replicate F.nodes blank) F.entry (holds F.start)

  -- Rule 9.5: the table after k passes.
  unfoldable pub after_passes : ℕ → Table F
  after_passes zero = before
  after_passes (suc k) = (pass (after_passes k)).table

  -- Rule 9.5: passes while the last one changed something. What is left of the allowance, the passes made, the table, the last pass's flag.
  unfoldable pub settle_from : ℕ → ℕ → Table F → Bool → Outcome F.State
  settle_from zero made table false = settled made table
  settle_from zero made table true = spent
  settle_from (suc left) made table false = settled made table
  settle_from (suc left) made table true =
      settle_from left (suc made) (pass table).table (pass table).changed

  -- Rules 9.5 and 11.12: settled with its pass count, or every pass of the allowance has changed something.
  unfoldable pub settle : ℕ → Outcome F.State
  settle allowance = settle_from allowance zero before true
