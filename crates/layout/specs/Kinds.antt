-- Tables of states that fit, flows that keep states fitting, and the kinds of row that such states have. What fits is left open; where
-- rows are laid out, it is that they have their lengths.
-- Nothing here is a rule of the tool: laws and contracts of inner functions speak of it.
use Rattle.std.specs.Prelude.{List, ◌≡◌, ℕ, length}
use Rattle.flow.specs.Flow.{Cell, blank, holds, cell_at, Flow}
use Rattle.layout.specs.Rows.{row_of, rows_of}

abbrev pub CellFits : {X : Type 0} → (X → Type 0) → Cell X → Type 0
CellFits Fits blank = Unit {0}
CellFits Fits (holds a) = Fits a

-- A cell for each node, and each state fits.
pub record Fitted {X : Type 0} (Fits : X → Type 0) (nodes : ℕ) (table : List (Cell X)) : Type 0 where
  pub long : length table ≡ nodes
  pub cells_fit : (n : ℕ) → CellFits Fits (cell_at table n)

-- The start fits, and steps and meetings keep states that fit.
pub record FlowFits (F : Flow) (Fits : F.State → Type 0) : Type 0 where
  pub start_fits : Fits F.start
  pub step_fits : (n : ℕ) (a : F.State) → Fits a → Fits (F.step n a)
  pub meet_fits : (a b : F.State) → Fits a → Fits b → Fits (F.meet a b)

-- One kind of row of a state: the numbers, and that a state that fits has so many of them.
pub record Kind {X : Type 0} (Fits : X → Type 0) : Type 0 where
  pub count : ℕ
  pub numbers : X → List ℕ
  pub length_numbers : (a : X) → Fits a → length (numbers a) ≡ count

abbrev pub kind_row : {X : Type 0} {Fits : X → Type 0} → Kind Fits → Cell X → List ℕ
kind_row K = row_of K.count K.numbers

abbrev pub kind_rows : {X : Type 0} {Fits : X → Type 0} → Kind Fits → List (Cell X) → List ℕ
kind_rows K = rows_of K.count K.numbers
