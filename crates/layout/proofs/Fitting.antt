-- Laws of tables of states that fit: a cell set, and a table that is read off.
use Prim.Native.Nat.{ℕ, ◌≤◌, ◌<◌}
use mathlib.Core.Bool.{Bool, true, false, cond}
use mathlib.Core.List.{List}
use mathlib.Core.Logic.{⊎_elim}
use mathlib.Core.Path.{◌≡◌, refl, sym, ap, ◌∙◌, subst}
use native.Mathlib.Omega.{arith}
use lib.Dec.{eqb}
use lib.ListN.{length, get_or, set, length-set, get_or-eq_default}
use lib.Seq.{ext_get_or}
use Rattle.lists.proofs.Listed.{length-list_of, get_or-list_of, list_of-same, set_all}
use Rattle.lists.proofs.Orders.{below_or}
use Rattle.flow.specs.Flow.{Cell, blank, holds, cell_at}
use Rattle.layout.specs.Rows.{mark_of, cell_in, table_by}
use Rattle.layout.specs.Kinds.{CellFits, Fitted}

pub fitted-set : {X : Type 0} {Fits : X → Type 0} {nodes : ℕ} {T : List (Cell X)} → Fitted Fits nodes T → (t : ℕ) (c : Cell X) → CellFits Fits c → Fitted Fits nodes (set T t c)
fitted-set {X} {Fits} {nodes} {T} s t c h =
    record {
      long = length-set T t c ∙ s.long;
      cells_fit = set_all (CellFits Fits) T t c blank h s.cells_fit;
    }

-- ---- a table that is read off

module _ {X : Type 0} (nodes : ℕ) (state : ℕ → X) (marks : List ℕ) where
  pub table_at : (n : ℕ) → n < nodes → cell_at (table_by nodes state marks) n ≡ cell_in state marks n
  table_at n h = get_or-list_of nodes (cell_in state marks) blank n h

  pub table-past : (n : ℕ) → nodes ≤ n → cell_at (table_by nodes state marks) n ≡ blank
  table-past n h =
      get_or-eq_default (table_by nodes state marks) blank (omega (arith, length-list_of nodes (cell_in state marks)))

  -- A property of each of its cells.
  pub table-all : (Q : ℕ → Cell X → Type 0) → ((n : ℕ) → n < nodes → Q n (cell_in state marks n)) → ((n : ℕ) → Q n blank)
      → (n : ℕ) → Q n (cell_at (table_by nodes state marks) n)
  table-all Q inside past n =
      ⊎_elim (λ h. subst (Q n) (sym (table_at n h)) (inside n h)) (λ h. subst (Q n) (sym (table-past n h)) (past n)) (below_or n nodes)

  -- It is fitted where the states that are read off fit.
  pub table-fitted : (Fits : X → Type 0) → ((n : ℕ) → Fits (state n)) → Fitted Fits nodes (table_by nodes state marks)
  table-fitted Fits fits =
      record {
        long = length-list_of nodes (cell_in state marks);
        cells_fit = table-all (λ n c. CellFits Fits c) (λ n h. go n (eqb (get_or marks n 0) 0)) (λ n. tt);
      }
    where
      go : (n : ℕ) (t : Bool) → CellFits Fits (cond t blank (holds (state n)))
      go n true = tt
      go n false = fits n

  -- It is the table whose marks and states are read off.
  pub table-read : (T : List (Cell X)) → length T ≡ nodes → ((n : ℕ) → n < nodes → get_or marks n 0 ≡ mark_of (cell_at T n))
      → ((n : ℕ) → n < nodes → (a : X) → cell_at T n ≡ holds a → state n ≡ a) → table_by nodes state marks ≡ T
  table-read T long mark read =
      let all : length (table_by nodes state marks) ≡ nodes = length-list_of nodes (cell_in state marks) in
      ext_get_or blank (table_by nodes state marks) T (all ∙ sym long)
      (λ n h.
      let inside : n < nodes = omega arith in
      table_at n inside ∙ cell n inside (cell_at T n) refl)
    where
      cell : (n : ℕ) → n < nodes → (c : Cell X) → cell_at T n ≡ c → cell_in state marks n ≡ c
      cell n h blank e = rw (mark n h, e)
      cell n h (holds a) e = rw (mark n h, e) (ap holds (read n h a e))

-- Two tables that are read off alike.
pub table_same : {X : Type 0} (nodes : ℕ) (one other : ℕ → X) (marks more : List ℕ) → ((n : ℕ) → n < nodes → get_or marks n 0 ≡ get_or more n 0) → ((n : ℕ) → n < nodes → one n ≡ other n)
    → table_by nodes one marks ≡ table_by nodes other more
table_same nodes one other marks more mark state =
    list_of-same nodes (cell_in one marks) (cell_in other more) (λ n h i. cond (eqb (mark n h i) 0) blank (holds (state n h i)))
