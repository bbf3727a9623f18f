-- In which order a pass takes the nodes, and what each sends, at every node, however large: another order has the same table in the end, and only the
-- pass count shows it. Rules 9.2 to 9.4. `taking` in proofs/Taking.antt proves it.
use Rattle.std.specs.Prelude.{ℕ, zero, suc, false, List, [], ◌∷◌, ◌≡◌}
use Rattle.flow.specs.Flow.{blank, holds, cell_at, Flow, Table}
use Rattle.flow.specs.Pass.{Run, put, put_all, take_with, take_node, take_nodes, pass}

pub record Taking (F : Flow) : Type 0 where
  -- rule 9.2: all nodes, each once, node 0 first
  pub pass_takes : (table : Table F) → pass F table ≡ take_nodes F F.nodes (record { table = table; changed = false })
  pub takes_none : (run : Run F.State) → take_nodes F zero run ≡ run
  pub takes_next : (n : ℕ) (run : Run F.State) → take_nodes F (suc n) run ≡ take_node F n (take_nodes F n run)
  pub takes_held : (n : ℕ) (run : Run F.State) → take_node F n run ≡ take_with F n (cell_at run.table n) run
  -- rule 9.3: what it sends, to each target in turn
  pub sends_nothing : (n : ℕ) (run : Run F.State) → take_with F n blank run ≡ run
  pub sends_once : (n : ℕ) (a : F.State) (run : Run F.State) → take_with F n (holds a) run ≡ put_all F (F.step n a) (F.arrows n) run
  pub puts_none : (a : F.State) (run : Run F.State) → put_all F a [] run ≡ run
  pub puts_next : (a : F.State) (t : ℕ) (ts : List ℕ) (run : Run F.State) → put_all F a (t ∷ ts) run ≡ put_all F a ts (put F a t run)
