-- What laws of totals ask of a machine and a table at each node of a walk. It is of any machine, any states and any kind of touch.
-- Nothing here is a rule of the tool: laws and contracts of inner functions speak of it.
use Rattle.std.specs.Prelude.{Bool, not, ◌&&◌, List, ◌≡◌, ℕ, ◌<◌, eqb}
use Rattle.flow.specs.Flow.{Cell, holds, cell_at}
use Rattle.flow.specs.Walk.{AtTouches, Machine}
use Rattle.classes.specs.Class.{kept, classes_by, CalledRight, AllTold}

-- `W` is what a class goes by, and what touches carry through a node; `S` is what a table has of it.
module _ {E W : Type 0} (M : Machine E) (class_at : E → W → ℕ) (touched_by : E → W → W) where
  -- Each touch is found as its class calls it.
  abbrev pub Right : List E → W → M.Contents → Type 0
  Right touches w c = AtTouches touched_by M.act (λ e v d. CalledRight (class_at e v) (M.finds e d)) touches w c

  -- A touch is called kept, and the machine does not find it.
  abbrev pub misses_kept : E → W → M.Contents → Bool
  misses_kept e w c = eqb (class_at e w) kept && not (M.finds e c)

  -- A table whose nodes have these classes, by these states on arrival, and a machine that makes these touches at each node.
  module _ {S : Type 0} (touches : ℕ → List E) (nodes : ℕ) (classes_at : ℕ → S → List ℕ) (states : ℕ → W) (table : List (Cell S)) where
    -- The node is marked, its classes are those of its touches, and each of these is found as its class calls it.
    pub record RightAt (n : ℕ) (c : M.Contents) : Type 0 where
      pub inside : n < nodes
      pub state : S
      pub marked : cell_at table n ≡ holds state
      pub classed : classes_at n state ≡ classes_by class_at touched_by (touches n) (states n)
      pub right : Right (touches n) (states n) c

    -- The same, and each of the classes tells what is found.
    pub record ToldAt (n : ℕ) (c : M.Contents) : Type 0 where
      pub at : RightAt n c
      pub told : AllTold (classes_at n at.state)
