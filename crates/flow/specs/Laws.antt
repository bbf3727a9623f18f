-- What the theory of passes asks of a flow. Nothing here is a rule of the tool; ages keep these laws (`ages`), and so do
-- the states of one block (`kept`).
-- `Ok` is what a passing table has at each marked node, whoever made the table. `Real n` is what the states have, besides, that
-- passes bring to node n: for a step that keeps the order only from such states, and for facts that are to be carried along. Where
-- neither is needed, `Real n` is `Ok`.
use Rattle.std.specs.Prelude.{◌≡◌, true, false, ℕ, ◌≤◌, ◌<◌}
use Rattle.lists.specs.Lists.{Among}
use Rattle.flow.specs.Flow.{Cell, blank, holds, Flow}

pub record Laws (F : Flow) : Type 1 where
  pub Real : ℕ → F.State → Type 0
  pub entry_inside : F.entry < F.nodes
  pub arrows-in : (n t : ℕ) → n < F.nodes → Among t (F.arrows n) → t < F.nodes
  pub real_ok : (n : ℕ) (a : F.State) → Real n a → F.Ok a
  pub real_start : Real F.entry F.start
  pub real_step : (n t : ℕ) (a : F.State) → n < F.nodes → Among t (F.arrows n) → Real n a → Real t (F.step n a)
  pub real_meet : (n : ℕ) (a b : F.State) → Real n a → Real n b → Real n (F.meet a b)
  pub below_refl : (a : F.State) → F.Below a a
  pub below_trans : (a b c : F.State) → F.Below a b → F.Below b c → F.Below a c
  -- two states of a table that allow the same are the same
  pub below_both : (a b : F.State) → F.Ok a → F.Ok b → F.Below a b → F.Below b a → a ≡ b
  pub meet_left : (n : ℕ) (a b : F.State) → Real n a → Real n b → F.Below a (F.meet a b)
  pub meet_right : (n : ℕ) (a b : F.State) → Real n a → Real n b → F.Below b (F.meet a b)
  pub meet_least : (n : ℕ) (a b c : F.State) → Real n a → Real n b → F.Ok c → F.Below a c → F.Below b c → F.Below (F.meet a b) c
  pub monotone : (n : ℕ) (a b : F.State) → n < F.nodes → Real n a → F.Ok b → F.Below a b → F.Below (F.step n a) (F.step n b)
  pub same_yes : (a b : F.State) → F.same a b ≡ true → a ≡ b

-- What it asks for passes to end: a height that no state exceeds, and that grows where a meeting changes a state.
pub record Height (F : Flow) (L : Laws F) : Type 0 where
  pub height : F.State → ℕ
  pub bound : ℕ
  pub bounded : (n : ℕ) (a : F.State) → L.Real n a → height a ≤ bound
  pub grows : (n : ℕ) (a b : F.State) → L.Real n a → L.Real n b → F.same (F.meet a b) a ≡ false → height a < height (F.meet a b)

-- `Real`, of cells: a blank one is.
module _ (F : Flow) (L : Laws F) where
  abbrev pub CellReal : ℕ → Cell F.State → Type 0
  CellReal n blank = Unit {0}
  CellReal n (holds a) = L.Real n a
