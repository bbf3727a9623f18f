-- Passes keep tables fitted, for every flow whose start fits and whose steps and meetings keep states that fit.
use Prim.Native.Nat.{ℕ, zero, suc}
use mathlib.Core.Bool.{false}
use mathlib.Core.List.{List, [], ◌∷◌}
use lib.ListN.{replicate, length-replicate}
use Rattle.flow.specs.Flow.{Cell, blank, holds, cell_at, Flow, Table}
use Rattle.flow.specs.Pass.{Run, met, met_at, put, put_all, take_with, take_node, take_nodes, pass, before, after_passes}
use Rattle.layout.specs.Kinds.{CellFits, Fitted, FlowFits}
use Rattle.layout.proofs.Fitting.{fitted-set}

blanks-fit : {X : Type 0} (Fits : X → Type 0) (n i : ℕ) → CellFits Fits (cell_at (replicate n blank) i)
blanks-fit Fits zero i = tt
blanks-fit Fits (suc n) zero = tt
blanks-fit Fits (suc n) (suc i) = blanks-fit Fits n i

-- The table without a mark.
pub blanks-fitted : {X : Type 0} (Fits : X → Type 0) (nodes : ℕ) → Fitted Fits nodes (replicate nodes blank)
blanks-fitted Fits nodes = record { long = length-replicate nodes blank; cells_fit = blanks-fit Fits nodes }

module _ {F : Flow} {Fits : F.State → Type 0} (keeps : FlowFits F Fits) where
  pub met-fits : (c : Cell F.State) (a : F.State) → CellFits Fits c → Fits a → CellFits Fits (met F c a)
  unfolding met
  met-fits blank a f h = h
  met-fits (holds b) a f h = keeps.meet_fits b a f h

  pub put-fitted : (a : F.State) (t : ℕ) (run : Run F.State) → Fits a → Fitted Fits F.nodes run.table → Fitted Fits F.nodes (put F a t run).table
  unfolding put met_at
  put-fitted a t run h s =
      fitted-set s t (met F (cell_at run.table t) a) (met-fits (cell_at run.table t) a (s.cells_fit t) h)

  pub put_all-fitted : (a : F.State) (ts : List ℕ) (run : Run F.State) → Fits a → Fitted Fits F.nodes run.table → Fitted Fits F.nodes (put_all F a ts run).table
  unfolding put_all
  put_all-fitted a [] run h s = s
  put_all-fitted a (t ∷ ts) run h s = put_all-fitted a ts (put F a t run) h (put-fitted a t run h s)

  pub take_with-fitted : (n : ℕ) (c : Cell F.State) (run : Run F.State) → CellFits Fits c → Fitted Fits F.nodes run.table → Fitted Fits F.nodes (take_with F n c run).table
  unfolding take_with
  take_with-fitted n blank run h s = s
  take_with-fitted n (holds a) run h s = put_all-fitted (F.step n a) (F.arrows n) run (keeps.step_fits n a h) s

  pub take_node-fitted : (n : ℕ) (run : Run F.State) → Fitted Fits F.nodes run.table → Fitted Fits F.nodes (take_node F n run).table
  unfolding take_node
  take_node-fitted n run s = take_with-fitted n (cell_at run.table n) run (s.cells_fit n) s

  pub take_nodes-fitted : (n : ℕ) (run : Run F.State) → Fitted Fits F.nodes run.table → Fitted Fits F.nodes (take_nodes F n run).table
  unfolding take_nodes
  take_nodes-fitted zero run s = s
  take_nodes-fitted (suc n) run s = take_node-fitted n (take_nodes F n run) (take_nodes-fitted n run s)

  pub pass-fitted : (T : Table F) → Fitted Fits F.nodes T → Fitted Fits F.nodes (pass F T).table
  unfolding pass
  pass-fitted T s = take_nodes-fitted F.nodes (record { table = T; changed = false }) s

  pub before-fitted : Fitted Fits F.nodes (before F)
  unfolding before
  before-fitted = fitted-set (blanks-fitted Fits F.nodes) F.entry (holds F.start) keeps.start_fits

  pub after_passes-fitted : (k : ℕ) → Fitted Fits F.nodes (after_passes F k)
  unfolding after_passes
  after_passes-fitted zero = before-fitted
  after_passes-fitted (suc k) = pass-fitted (after_passes F k) (after_passes-fitted k)
