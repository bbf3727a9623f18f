-- When what a state says of a machine's contents stays true along a walk, and what a table then says. `True a c` is what a state says.
-- Nothing here is a rule of the tool: laws and contracts of inner functions speak of it.
use Rattle.std.specs.Prelude.{◌≡◌, List, ℕ, ◌<◌}
use Rattle.lists.specs.Lists.{Among}
use Rattle.flow.specs.Flow.{Cell, blank, holds, cell_at, Flow, Table}
use Rattle.flow.specs.Walk.{in_turn, Machine}

module _ (F : Flow) {E : Type 0} (M : Machine E) (touches : ℕ → List E) (touch_state : E → F.State → F.State) (True : F.State → M.Contents → Type 0) where
  -- What is asked: a step is the node's touches in turn, one touch keeps what is true, and a state that allows more says less.
  pub record Truthful : Type 0 where
    pub arrows-in : (n t : ℕ) → n < F.nodes → Among t (F.arrows n) → t < F.nodes
    pub step_is : (n : ℕ) → n < F.nodes → (a : F.State) → F.step n a ≡ in_turn touch_state (touches n) a
    pub one_touch : (n : ℕ) → n < F.nodes → (e : E) → Among e (touches n) → (a : F.State) (c : M.Contents) → True a c → True (touch_state e a) (M.act e c)
    pub below_true : (a b : F.State) (c : M.Contents) → F.Below a b → True a c → True b c

module _ (F : Flow) {E : Type 0} (M : Machine E) (True : F.State → M.Contents → Type 0) where
  -- A marked node's state is true of these contents.
  abbrev pub SaysOf : Cell F.State → M.Contents → Type 0
  SaysOf blank c = ⊥
  SaysOf (holds a) c = True a c

  -- What a table says at a node that is one.
  pub record SaysAt (table : Table F) (n : ℕ) (c : M.Contents) : Type 0 where
    pub inside : n < F.nodes
    pub cell-says : SaysOf (cell_at table n) c
