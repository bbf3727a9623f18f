-- Tables of any state in lent lists: a mark for each node, and rows of numbers one after another, as many kinds of row as a state has.
-- Rules 7.1, 7.2, 7.4 and 12.2 without their ages.
-- Choices: a mark that is not 0 reads as a mark, so that a table can be read off any list; past the end of a list a number is 0.
use Rattle.std.specs.Prelude.{cond, List, map, ℕ, ◌+◌, ◌*◌, eqb, get_or, replicate}
use Rattle.lists.specs.Lists.{list_of, joined}
use Rattle.flow.specs.Flow.{Cell, blank, holds}

-- ---- a table as it is written

-- Rule 7.2: the mark of a cell.
abbrev pub mark_of : {X : Type 0} → Cell X → ℕ
mark_of blank = 0
mark_of (holds a) = 1

-- Rule 7.1: a mark for each node.
abbrev pub marks_of : {X : Type 0} → List (Cell X) → List ℕ
marks_of table = map mark_of table

-- Rule 7.4: the numbers of one kind that a state has, and zeros where there is no state.
abbrev pub row_of : {X : Type 0} → ℕ → (X → List ℕ) → Cell X → List ℕ
row_of count numbers blank = replicate count 0
row_of count numbers (holds a) = numbers a

-- Rules 7.1 and 12.2: a node's numbers together, the nodes in order.
abbrev pub rows_of : {X : Type 0} → ℕ → (X → List ℕ) → List (Cell X) → List ℕ
rows_of count numbers table = joined (map (row_of count numbers) table)

-- ---- a table as it is read

-- Rule 12.2, read back: row n of a list of rows of so many numbers.
abbrev pub row_at : ℕ → List ℕ → ℕ → List ℕ
row_at count buffer n = list_of count (λ column. get_or buffer (n * count + column) 0)

-- A node with mark 0 is unmarked; another has the state that is read off there.
abbrev pub cell_in : {X : Type 0} → (ℕ → X) → List ℕ → ℕ → Cell X
cell_in state marks n = cond (eqb (get_or marks n 0) 0) blank (holds (state n))

-- Rule 7.1: the table that marks and states make.
abbrev pub table_by : {X : Type 0} → ℕ → (ℕ → X) → List ℕ → List (Cell X)
table_by nodes state marks = list_of nodes (cell_in state marks)
