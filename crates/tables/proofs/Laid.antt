-- Laws of tables of ages laid out in lent buffers: those of `layout`, of a row of must ages, a row of may ages, and the marks.
use Prim.Native.Nat.{ℕ, ◌+◌, ◌*◌, ◌≤◌, ◌<◌}
use mathlib.Core.Bool.{false}
use mathlib.Core.List.{List}
use mathlib.Core.Path.{◌≡◌, sym, ◌∙◌, subst}
use native.Mathlib.Omega.{arith}
use borrow.Author.Tests.{ltb-false, le-ltb}
use lib.ListN.{length, get_or, set, replicate}
use Rattle.lists.specs.Lists.{list_of, written}
use Rattle.lists.specs.Loops.{patch}
use Rattle.lists.proofs.Choice.{or-false, false-or}
use Rattle.lists.proofs.Listed.{length-list_of}
use Rattle.cache.specs.Ages.{Ages}
use Rattle.flow.specs.Flow.{Cell, blank, holds, cell_at}
use Rattle.flow.specs.Passing.{Passing}
use Rattle.layout.specs.Rows.{mark_of, row_of, cell_in}
use Rattle.layout.proofs.Fitting.{fitted-set, table_at, table-past, table-all, table-fitted, table-read}
use Rattle.layout.proofs.Laid.{rows_long, over-rows-long, row_read, row-whole, row-stored, rows-over, rows-blank, mark-plain, mark-zero, marks_long, over-marks-long, mark-read, mark-stored, marks-over, marks-blank}
use Rattle.ages.specs.Plan.{Plan, plan_flow}
use Rattle.tables.specs.Lent.{Lent, ages_used, marks_used, ages_at, table_of, table_short, lent_of, over, TablePasses}
use Rattle.tables.specs.Fitting.{AgesFit, CellAgesFit, TableFits, must_kind, may_kind}

-- ---- tables that are read off

-- What a lent table has at a node.
abbrev lent_cell : Plan → Lent → ℕ → Cell Ages
lent_cell plan lent n = cell_in (ages_at plan lent) lent.marks n

module _ (plan : Plan) where
  pub set-fits : {T : List (Cell Ages)} → TableFits plan T → (t : ℕ) (c : Cell Ages) → CellAgesFit plan c → TableFits plan (set T t c)
  set-fits s t c h = fitted-set s t c h

  pub table_of-at : (lent : Lent) (n : ℕ) → n < plan.nodes → cell_at (table_of plan lent) n ≡ lent_cell plan lent n
  table_of-at lent n h = table_at plan.nodes (ages_at plan lent) lent.marks n h

  pub table_of-past : (lent : Lent) (n : ℕ) → plan.nodes ≤ n → cell_at (table_of plan lent) n ≡ blank
  table_of-past lent n h = table-past plan.nodes (ages_at plan lent) lent.marks n h

  pub table_of-all : (lent : Lent) (Q : ℕ → Cell Ages → Type 0) → ((n : ℕ) → n < plan.nodes → Q n (lent_cell plan lent n)) → ((n : ℕ) → Q n blank)
      → (n : ℕ) → Q n (cell_at (table_of plan lent) n)
  table_of-all lent Q inside past n = table-all plan.nodes (ages_at plan lent) lent.marks Q inside past n

  pub table_of-fits : (lent : Lent) → TableFits plan (table_of plan lent)
  table_of-fits lent =
      table-fitted plan.nodes (ages_at plan lent) lent.marks (AgesFit plan) (λ n. (length-list_of plan.blocks _, length-list_of plan.blocks _))

-- ---- must ages, may ages and marks, as they are written

module _ (plan : Plan) {T : List (Cell Ages)} (s : TableFits plan T) where
  pub must-laid : length (lent_of plan T).must ≡ ages_used plan
  must-laid = rows_long (must_kind plan) s

  pub may-laid : length (lent_of plan T).may ≡ ages_used plan
  may-laid = rows_long (may_kind plan) s

  pub marks-laid : length (lent_of plan T).marks ≡ marks_used plan
  marks-laid = marks_long s

module _ (plan : Plan) {T : List (Cell Ages)} (s : TableFits plan T) (lent : Lent) where
  pub must-over-long : ages_used plan ≤ length lent.must → length (over plan T lent).must ≡ length lent.must
  must-over-long h = over-rows-long (must_kind plan) s lent.must h

  pub may-over-long : ages_used plan ≤ length lent.may → length (over plan T lent).may ≡ length lent.may
  may-over-long h = over-rows-long (may_kind plan) s lent.may h

  pub marks-over-long : marks_used plan ≤ length lent.marks → length (over plan T lent).marks ≡ length lent.marks
  marks-over-long h = over-marks-long s lent.marks h

pub over-over : (plan : Plan) {T U : List (Cell Ages)} → TableFits plan T → TableFits plan U → (lent : Lent) → over plan U (over plan T lent) ≡ over plan U lent
over-over plan s u lent = λ i. record {
  must = rows-over (must_kind plan) s u lent.must i;
  may = rows-over (may_kind plan) s u lent.may i;
  marks = marks-over s u lent.marks i;
}

module _ (plan : Plan) {T : List (Cell Ages)} (s : TableFits plan T) (l : List ℕ) where
  pub must-stored : (t : ℕ) → t < plan.nodes → (f : ℕ → ℕ) (a : Ages) → a.must ≡ list_of plan.blocks f
      → patch (written (lent_of plan T).must l) (t * plan.blocks) plan.blocks f ≡ written (lent_of plan (set T t (holds a))).must l
  must-stored t h f a e = row-stored (must_kind plan) s l t h f (holds a) e

  pub may-stored : (t : ℕ) → t < plan.nodes → (f : ℕ → ℕ) (a : Ages) → a.may ≡ list_of plan.blocks f
      → patch (written (lent_of plan T).may l) (t * plan.blocks) plan.blocks f ≡ written (lent_of plan (set T t (holds a))).may l
  may-stored t h f a e = row-stored (may_kind plan) s l t h f (holds a) e

  pub marks-stored : (t : ℕ) → t < plan.nodes → (a : Ages) → set (written (lent_of plan T).marks l) t 1 ≡ written (lent_of plan (set T t (holds a))).marks l
  marks-stored t h a = mark-stored s l t h a

  pub must-read : (n : ℕ) → n < plan.nodes → (a : Ages) → cell_at T n ≡ holds a → (k : ℕ) → k < plan.blocks
      → get_or (written (lent_of plan T).must l) (n * plan.blocks + k) 0 ≡ get_or a.must k 0
  must-read n h a e k i = row_read (must_kind plan) s l n h (holds a) e k i

  pub may_read : (n : ℕ) → n < plan.nodes → (a : Ages) → cell_at T n ≡ holds a → (k : ℕ) → k < plan.blocks
      → get_or (written (lent_of plan T).may l) (n * plan.blocks + k) 0 ≡ get_or a.may k 0
  may_read n h a e k i = row_read (may_kind plan) s l n h (holds a) e k i

  pub marks-read : (n : ℕ) → n < plan.nodes → get_or (written (lent_of plan T).marks l) n 0 ≡ mark_of (cell_at T n)
  marks-read n h = mark-read s l n h

-- ---- a table written and read again

module _ (plan : Plan) {T : List (Cell Ages)} (s : TableFits plan T) (lent : Lent) where
  -- The rows of a node are those of its cell.
  pub over-ages : (n : ℕ) → n < plan.nodes → (c : Cell Ages) → cell_at T n ≡ c
      → ages_at plan (over plan T lent) n ≡ record { must = row_of plan.blocks (λ a. a.must) c; may = row_of plan.blocks (λ a. a.may) c }
  over-ages n h c e = λ i. record {
    must = row-whole (must_kind plan) s lent.must n h c e i;
    may = row-whole (may_kind plan) s lent.may n h c e i;
  }

  pub table-over : table_of plan (over plan T lent) ≡ T
  table-over =
      table-read plan.nodes (ages_at plan (over plan T lent)) (over plan T lent).marks T s.long (marks-read plan s lent.marks) (λ n h a e. over-ages n h (holds a) e)

-- The table without a mark is zeros.
pub zeros-over : (plan : Plan)
    → lent_of plan (replicate plan.nodes blank)
    ≡ record { must = replicate (ages_used plan) 0; may = replicate (ages_used plan) 0; marks = replicate (marks_used plan) 0 }
zeros-over plan = λ i. record {
  must = rows-blank (must_kind plan) plan.nodes i;
  may = rows-blank (may_kind plan) plan.nodes i;
  marks = marks-blank Ages plan.nodes i;
}

-- ---- tables that pass

module _ (plan : Plan) (lent : Lent) where
  pub long-enough : table_short plan lent ≡ false → (ages_used plan ≤ length lent.must) × ((ages_used plan ≤ length lent.may) × (marks_used plan ≤ length lent.marks))
  long-enough e =
      let must = or-false _ _ e in
      let may = or-false _ _ must.1 in
      (ltb-false _ _ must.0, (ltb-false _ _ may.0, ltb-false _ _ may.1))

  pub not_short : ages_used plan ≤ length lent.must → ages_used plan ≤ length lent.may → marks_used plan ≤ length lent.marks → table_short plan lent ≡ false
  not_short must may marks = false-or _ _ (le-ltb _ _ must) (false-or _ _ (le-ltb _ _ may) (le-ltb _ _ marks))

-- A table that meets the equations passes where it is written over buffers that are long enough.
pub over-passes : (plan : Plan) {T : List (Cell Ages)} → TableFits plan T → Passing (plan_flow plan) T → (lent : Lent) → table_short plan lent ≡ false → TablePasses plan (over plan T lent)
over-passes plan {T} s meets lent room =
    let long = long-enough plan lent room in
    record {
      must_long = omega (arith, long.0, must-over-long plan s lent long.0);
      may_long = omega (arith, long.1.0, may-over-long plan s lent long.1.0);
      marks_long = omega (arith, long.1.1, marks-over-long plan s lent long.1.1);
      marks_plain = λ n h. omega (arith, marks-read plan s lent.marks n h, mark-plain (cell_at T n));
      unmarked-zero = λ n h z. over-ages plan s lent n h blank (mark-zero (cell_at T n) (sym (marks-read plan s lent.marks n h) ∙ z));
      equations = subst (Passing (plan_flow plan)) (sym (table-over plan s lent)) meets;
    }
