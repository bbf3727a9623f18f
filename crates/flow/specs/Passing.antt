-- When a table passes, and which is the tightest, of any flow. Rules 7.1, 7.3 and 7.5 to 7.8, and the mark of rules 7.2 and 7.9.
-- A blank cell has no numbers, so rules 7.2 and 7.4 are said where a table lies in lent lists (`Lent.antt` of `tables`).
use Rattle.std.specs.Prelude.{◌≡◌, ℕ, length}
use Rattle.lists.specs.Lists.{Among}
use Rattle.flow.specs.Flow.{Cell, blank, holds, cell_at, Flow, Table}

-- Rule 7.2: a node is marked. Rule 7.9, which nodes are, is a law (demand 2).
abbrev pub Marked : {X : Type 0} → Cell X → Type 0
Marked blank = ⊥
Marked (holds a) = Unit {0}

module _ (F : Flow) where
  -- Rules 7.5, 7.6 and 7.8, of one cell: a blank one is below every cell, and no marked one is below a blank one.
  abbrev pub CellBelow : Cell F.State → Cell F.State → Type 0
  CellBelow blank d = Unit {0}
  CellBelow (holds a) blank = ⊥
  CellBelow (holds a) (holds b) = F.Below a b

  -- Rule 7.3, of one cell.
  abbrev pub CellOk : Cell F.State → Type 0
  CellOk blank = Unit {0}
  CellOk (holds a) = F.Ok a

  -- Rule 7.6: what leaves a node, nothing from an unmarked one, from a marked one its state after the record.
  abbrev pub leaving : ℕ → Cell F.State → Cell F.State
  leaving n blank = blank
  leaving n (holds a) = holds (F.step n a)

  -- Rule 7.7, but for rules 7.2 and 7.4.
  pub record Passing (table : Table F) : Type 0 where
    -- rule 7.1: a cell for each node
    pub long : length table ≡ F.nodes
    -- rule 7.3
    pub fine : (n : ℕ) → CellOk (cell_at table n)
    -- rule 7.5
    pub begun : CellBelow (holds F.start) (cell_at table F.entry)
    -- rule 7.6
    pub closed : (n t : ℕ) → Among t (F.arrows n) → CellBelow (leaving n (cell_at table n)) (cell_at table t)

  -- Rule 7.8: the other table says no more.
  abbrev pub Under : Table F → Table F → Type 0
  Under table other = (n : ℕ) → CellBelow (cell_at table n) (cell_at other n)

  -- Rule 7.8: it passes, and no other that passes says more.
  pub record Tightest (table : Table F) : Type 0 where
    pub passing : Passing table
    pub least : (other : Table F) → Passing other → Under table other
