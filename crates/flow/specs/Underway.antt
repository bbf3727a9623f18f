-- Tables and runs on the way from the first table to the settled one, and what a settling tells of the passes made.
-- Nothing here is a rule of the tool: laws and contracts of inner functions speak of it.
use Rattle.std.specs.Prelude.{◌≡◌, Bool, true, false, ℕ, suc, ◌-◌, ◌≤◌, ◌<◌, length}
use Rattle.flow.specs.Flow.{holds, cell_at, Flow, Table}
use Rattle.flow.specs.Passing.{CellBelow, Passing, Under}
use Rattle.flow.specs.Pass.{Run, pass, after_passes, settle_from, settle}
use Rattle.flow.specs.Laws.{Laws, CellReal}

module _ (F : Flow) (L : Laws F) where
  -- What is known of every table on the way: it is long enough and well formed, it has the start, and it is below every table that passes.
  pub record Underway (T : Table F) : Type 0 where
    pub long : length T ≡ F.nodes
    pub fine : (n : ℕ) → CellReal F L n (cell_at T n)
    pub begun : CellBelow F (holds F.start) (cell_at T F.entry)
    pub under : (P : Table F) → Passing F P → Under F T P

  -- x may be met into t: t is a node, x is well formed, and no passing table has less at t.
  pub record Meetable (t : ℕ) (x : F.State) : Type 0 where
    pub inside : t < F.nodes
    pub real : L.Real t x
    pub below-passing : (P : Table F) → Passing F P → CellBelow F (holds x) (cell_at P t)

  -- From one run to a later one: the table stays on the way and only grows, and where nothing has changed it is the same.
  pub record LaterRun (r s : Run F.State) : Type 0 where
    pub underway : Underway s.table
    pub grows : Under F r.table s.table
    pub still : s.changed ≡ false → (s.table ≡ r.table) × (r.changed ≡ false)

module _ (F : Flow) where
  -- Whether the pass after k changes something.
  abbrev pub pass_changes : ℕ → Bool
  pass_changes k = (pass F (after_passes F k)).changed

  -- Within an allowance f, at the table U after k passes: the last of them changed nothing, and each before it something.
  pub record SettledAfter (f k : ℕ) (U : Table F) : Type 0 where
    pub within : k ≤ f
    pub table : U ≡ after_passes F k
    pub last : (j : ℕ) → suc j ≡ k → pass_changes j ≡ false
    pub earlier : (j : ℕ) → suc j < k → pass_changes j ≡ true

  -- What is left to do of an allowance after so many passes, each of which changed something.
  abbrev pub SettlesFrom : ℕ → ℕ → Type 0
  SettlesFrom allowance made = settle F allowance ≡ settle_from F (allowance - made) made (after_passes F made) true
