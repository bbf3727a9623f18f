-- A row of one kind met into a row of a lent table: what stands there is the row of the met state, and the flag tells whether the row is
-- another than before. A state with several kinds of row is put together of these.
use Prim.Native.Nat.{ℕ, ◌+◌, ◌*◌, ◌≤◌, ◌<◌, max, min}
use mathlib.Core.Bool.{Bool, not, ◌||◌}
use mathlib.Core.List.{List}
use mathlib.Core.Logic.{⊎_elim}
use mathlib.Core.Path.{◌≡◌, sym, ◌∙◌}
use native.Mathlib.Omega.{arith}
use borrow.Author.Tests.{lt-ltb, le-ltb, eq-eqb, ne_eqb}
use lib.Dec.{ltb, eqb}
use lib.ListN.{get_or, set}
use Rattle.lists.specs.Lists.{list_of, written, same_row}
use Rattle.lists.specs.Loops.{patch}
use Rattle.lists.proofs.Orders.{below_or}
use Rattle.lists.proofs.Listed.{list_of-same, list_of-is}
use Rattle.lists.proofs.Loops.{patch-turn-by, any-turn-by}
use Rattle.lists.proofs.Same.{any-differs}
use Rattle.flow.specs.Flow.{Cell, holds, cell_at}
use Rattle.layout.specs.Joins.{joined_row, row_moves, RowJoined}
use Rattle.layout.specs.Kinds.{Fitted, Kind, kind_rows}
use Rattle.layout.proofs.Laid.{row_read, row-stored}

-- ---- a turn of a loop that joins a row

pub joined-turn : (join : ℕ → ℕ → ℕ) (moves : ℕ → ℕ → Bool) (base n : ℕ) (new : ℕ → ℕ) (changed : Bool) (l after : List ℕ) (flag : Bool) (v : ℕ) (next : Bool)
    → RowJoined join moves base n new changed l after flag → v ≡ join (get_or after (base + n) 0) (new n) → next ≡ (flag || moves (get_or after (base + n) 0) (new n))
    → RowJoined join moves base (n + 1) new changed l (set after (base + n) v) next
joined-turn join moves base n new changed l after flag v next so_far here there =
    record {
      row = patch-turn-by l base n (λ j x. join x (new j)) after v so_far.row here;
      flag_is = any-turn-by l base n (λ j. join (get_or l (base + j) 0) (new j)) after (λ j x. moves x (new j)) changed flag next so_far.row so_far.flag_is there;
    }

-- ---- when a number moves

-- The test tells whether joining gives another number than the old.
abbrev TellsMoves : (ℕ → ℕ → ℕ) → (ℕ → ℕ → Bool) → Type 0
TellsMoves join moves = (old new : ℕ) → moves old new ≡ not (eqb (join old new) old)

pub max-moves : TellsMoves max ltb
max-moves old new =
    ⊎_elim (λ (h : old < new). rw (lt-ltb old new h, ne_eqb (max old new) old (λ e. omega arith)))
    (λ (h : new ≤ old). rw (le-ltb old new h, eq-eqb (max old new) old (omega arith))) (below_or old new)

pub min-moves : TellsMoves min (λ old new. ltb new old)
min-moves old new =
    ⊎_elim (λ (h : new < old). rw (lt-ltb new old h, ne_eqb (min old new) old (λ e. omega arith)))
    (λ (h : old ≤ new). rw (le-ltb new old h, eq-eqb (min old new) old (omega arith))) (below_or new old)

-- ---- a row met into a cell

-- Numbers that are the same at each place of a row; those that come may be more.
abbrev Agreeing : ℕ → (ℕ → ℕ) → List ℕ → Type 0
Agreeing count new row = (j : ℕ) → j < count → new j ≡ get_or row j 0

module _ {X : Type 0} {Fits : X → Type 0} (K : Kind Fits) {nodes : ℕ} {T : List (Cell X)} (s : Fitted Fits nodes T) (l : List ℕ)
    (t : ℕ) (inside : t < nodes) (new : ℕ → ℕ) (a : X) (agree : Agreeing K.count new (K.numbers a)) where
  -- A row stored as it is.
  pub row-taken : Fits a → patch (written (kind_rows K T) l) (t * K.count) K.count new ≡ written (kind_rows K (set T t (holds a))) l
  row-taken fits =
      row-stored K s l t inside new (holds a) (list_of-is K.count (K.numbers a) 0 (K.length_numbers a fits) ∙ sym (list_of-same K.count new _ agree))

  module _ (old : X) (stands : cell_at T t ≡ holds old) (join : ℕ → ℕ → ℕ) (met : X)
      (meets : K.numbers met ≡ list_of K.count (λ j. join (get_or (K.numbers old) j 0) (get_or (K.numbers a) j 0))) where
    was : (j : ℕ) → j < K.count → get_or (written (kind_rows K T) l) (t * K.count + j) 0 ≡ get_or (K.numbers old) j 0
    was j h = row_read K s l t inside (holds old) stands j h

    -- The row that stands there is then that of the met state.
    pub row-joined : joined_row join (t * K.count) K.count new (written (kind_rows K T) l) ≡ written (kind_rows K (set T t (holds met))) l
    row-joined =
        row-stored K s l t inside _ (holds met) (meets ∙ list_of-same K.count _ _ (λ j h. rw (was j h, agree j h)))

    -- The flag is what it was, or the row is another.
    pub row_moved : Fits old → (moves : ℕ → ℕ → Bool) → TellsMoves join moves → (changed : Bool)
        → row_moves moves changed (t * K.count) K.count new (written (kind_rows K T) l) ≡ (changed || not (same_row (K.numbers met) (K.numbers old)))
    row_moved fits moves tells changed =
        any-differs changed K.count _ (λ j. join (get_or (K.numbers old) j 0) (get_or (K.numbers a) j 0)) (λ j. get_or (K.numbers old) j 0)
        (λ j h. rw (was j h, agree j h) (tells (get_or (K.numbers old) j 0) (get_or (K.numbers a) j 0)))
        ∙ (λ i. changed || not (same_row (sym meets i) (sym (list_of-is K.count (K.numbers old) 0 (K.length_numbers old fits)) i)))
