-- The marks of columns say of which blocks a touch is kept at a node with a ceiling above 0, and so the difference is charged as rule 10.4 has it.
use Rattle.std.specs.Prelude.{None, Option, Some}
use Prim.Native.Nat.{ℕ, zero, suc, ◌+◌, ◌-◌, ◌*◌, ◌≤◌, ◌<◌}
use mathlib.Core.Bool.{Bool, true, false, cond, ◌&&◌, ◌||◌}
use mathlib.Core.List.{List, [], ◌∷◌}
use mathlib.Core.Path.{◌≡◌, refl, sym, ap, ◌∙◌}
use native.Mathlib.Decide.{ℕ_discrete}
use native.Mathlib.Omega.{arith}
use borrow.Author.Tests.{eq-eqb, ne_eqb, lt-ltb}
use lib.Dec.{eqb, ltb}
use lib.ListN.{get_or, set, length, length-set, length-replicate, get_or-replicate}
use lib.Seq.{get_or-set_same, get_or-set_other}
use Rattle.lists.specs.Lists.{sum_of, written}
use Rattle.lists.proofs.Choice.{or-last}
use Rattle.lists.specs.Loops.{any}
use Rattle.lists.proofs.Loops.{any_same}
use Rattle.lists.proofs.Sums.{sum-equal, flags-most}
use Rattle.chart.specs.Geometry.{most_blocks, most_touches}
use Rattle.cache.specs.Ages.{Ages}
use Rattle.flow.specs.Flow.{Cell, blank, holds, cell_at}
use Rattle.ages.specs.Plan.{ColumnTouch, Plan, touches_in}
use Rattle.classes.specs.Class.{none, kept, Whole, whole_at, classes_of, node_class, table_classes}
use Rattle.costs.specs.Costs.{Figures, keeps_among, keeps_at, charged_for, kept_charge, high_total}
use Rattle.plan.specs.Listed.{nodes_in, blocks_in, node_in, touches_by, plan_in, Drawn, RecordIn}
use Rattle.plan.proofs.Holding.{touches-held, record-in, record-fits}
use Rattle.tables.specs.Lent.{Lent, table_of}
use Rattle.totals.specs.Charged.{set_if, marked_by, charged_by, charged_to, keeps_of, charges_at, charged_blocks}
use Rattle.totals.specs.Inner.{sums_to}
use Rattle.totals.proofs.Summing.{first-class, second-class, high_is}
use Rattle.plan.specs.declared.ColumnTouches.{ColumnTouches}

-- ---- marks

length-set_if : (test : Bool) (column : ℕ) (marks : List ℕ) → length (set_if test column marks) ≡ length marks
length-set_if true column marks = length-set marks column 1
length-set_if false column marks = refl

-- A mark after a column may have been marked.
set_if-at : (test : Bool) (column : ℕ) (marks : List ℕ) (flag : Bool) (k : ℕ) → column < length marks → get_or marks k 0 ≡ cond flag 1 0 → get_or (set_if test column marks) k 0 ≡ cond (flag || (eqb column k && test)) 1 0
set_if-at true column marks flag k h e = go (ℕ_discrete column k) flag e
  where
    go : Dec (column ≡ k) → (f : Bool) → get_or marks k 0 ≡ cond f 1 0 → get_or (set marks column 1) k 0 ≡ cond (f || (eqb column k && true)) 1 0
    go (yes q) true g = rw (← q) (get_or-set_same marks column 1 0 h)
    go (yes q) false g = rw (eq-eqb column k q) (rw (← q) (get_or-set_same marks column 1 0 h))
    go (no q) true g = get_or-set_other marks column k 1 0 (λ r. q (sym r)) ∙ g
    go (no q) false g = rw (ne_eqb column k q) (get_or-set_other marks column k 1 0 (λ r. q (sym r)) ∙ g)
set_if-at false column marks true k h e = e
set_if-at false column marks false k h e = go (eqb column k)
  where
    go : (t : Bool) → get_or marks k 0 ≡ cond (t && false) 1 0
    go true = e
    go false = e

or_assoc : (a b c : Bool) → ((a || b) || c) ≡ (a || (b || c))
or_assoc true b c = refl
or_assoc false b c = refl

module _ (first second : ℕ) (marks : List ℕ) where
  length-marked_by : (planned : Option ColumnTouches) → length (marked_by planned first second marks) ≡ length marks
  length-marked_by None = refl
  length-marked_by (Some reference) =
      length-set_if (eqb second kept) reference.upper (set_if (eqb first kept) reference.lower marks) ∙ length-set_if (eqb first kept) reference.lower marks

  marked_by-at : (planned : Option ColumnTouches) → RecordIn (length marks) planned → (flag : Bool) (k : ℕ) → get_or marks k 0 ≡ cond flag 1 0 → get_or (marked_by planned first second marks) k 0 ≡ cond (flag || keeps_of k planned first second) 1 0
  marked_by-at None inside flag k e = e ∙ ap (λ (t : Bool). cond t 1 0) (sym (or-last flag))
  marked_by-at (Some reference) inside flag k e =
      set_if-at (eqb second kept) reference.upper (set_if (eqb first kept) reference.lower marks) (flag || (eqb reference.lower k && eqb first kept)) k (rw (length-set_if (eqb first kept) reference.lower marks) inside.1)
      (set_if-at (eqb first kept) reference.lower marks flag k inside.0 e)
      ∙ ap (λ (t : Bool). cond t 1 0) (or_assoc flag (eqb reference.lower k && eqb first kept) (eqb reference.upper k && eqb second kept))

  pub length-charged_by : (planned : Option ColumnTouches) (ceiling : ℕ) → length (charged_by planned first second ceiling marks) ≡ length marks
  length-charged_by planned ceiling = go (eqb ceiling 0)
    where
      go : (t : Bool) → length (cond t marks (marked_by planned first second marks)) ≡ length marks
      go true = refl
      go false = length-marked_by planned

  charged_by-at : (planned : Option ColumnTouches) (ceiling : ℕ) → RecordIn (length marks) planned → (flag : Bool) (k : ℕ) → get_or marks k 0 ≡ cond flag 1 0
      → get_or (charged_by planned first second ceiling marks) k 0 ≡ cond (flag || (ltb 0 ceiling && keeps_of k planned first second)) 1 0
  charged_by-at planned zero inside flag k e = e ∙ ap (λ (t : Bool). cond t 1 0) (sym (or-last flag))
  charged_by-at planned (suc ceiling) inside flag k e = rw (ne_eqb (suc ceiling) 0 (λ q. omega arith), lt-ltb 0 (suc ceiling) (omega arith)) (marked_by-at planned inside flag k e)

module _ (plan classes ceilings : List ℕ) where
  pub length-charged_to : (n : ℕ) → length (charged_to plan classes ceilings n) ≡ most_blocks
  length-charged_to zero = length-replicate {A = ℕ} most_blocks 0
  length-charged_to (suc n) =
      length-charged_by (get_or classes (most_touches * n) 0) (get_or classes (most_touches * n + 1) 0) (charged_to plan classes ceilings n) (node_in plan n).what (get_or ceilings n 0) ∙ length-charged_to n

  -- The mark of a column after n nodes.
  charged-at : (n : ℕ) → ((k : ℕ) → k < n → RecordIn most_blocks (node_in plan k).what) → (column : ℕ) → column < most_blocks
      → get_or (charged_to plan classes ceilings n) column 0 ≡ cond (any false n (charges_at plan classes ceilings column)) 1 0
  charged-at zero inside column h = get_or-replicate {A = ℕ} most_blocks column 0 0 h
  charged-at (suc n) inside column h =
      charged_by-at (get_or classes (most_touches * n) 0) (get_or classes (most_touches * n + 1) 0) (charged_to plan classes ceilings n) (node_in plan n).what (get_or ceilings n 0)
      (rw (length-charged_to n) (inside n (omega arith))) (any false n (charges_at plan classes ceilings column)) column
      (charged-at n (λ k g. inside k (omega arith)) column h)

  pub charged-sum : ((k : ℕ) → k < nodes_in plan → RecordIn most_blocks (node_in plan k).what) → blocks_in plan ≤ most_blocks
      → sum_of (blocks_in plan) (λ column. get_or (charged_to plan classes ceilings (nodes_in plan)) column 0) ≡ charged_blocks plan classes ceilings
  charged-sum inside few =
      sum-equal (blocks_in plan) (λ column. get_or (charged_to plan classes ceilings (nodes_in plan)) column 0) (λ column. cond (any false (nodes_in plan) (charges_at plan classes ceilings column)) 1 0)
      (λ column h. charged-at (nodes_in plan) inside column (omega arith))

-- No more blocks are charged for than there are.
pub charged-few : (plan classes ceilings : List ℕ) (count : ℕ) → count ≡ charged_blocks plan classes ceilings → blocks_in plan ≤ most_blocks → count ≤ most_blocks
charged-few plan classes ceilings count is few =
    omega (arith, is, flags-most (blocks_in plan) (λ column. any false (nodes_in plan) (charges_at plan classes ceilings column)))

-- A record of a plan is of columns for which there are marks.
pub record-marked : (columns plan : List ℕ) → Drawn columns plan → (n : ℕ) → n < nodes_in plan → RecordIn most_blocks (node_in plan n).what
record-marked columns plan drawn n inside =
    record-fits (blocks_in plan) most_blocks drawn.few_blocks (node_in plan n).what (record-in columns plan drawn n inside)

-- ---- by the classes of a table

and-false : (a : Bool) → (a && false) ≡ false
and-false true = refl
and-false false = refl

module _ (held : Plan) (n column : ℕ) where
  -- A record's touches, with their classes.
  keeps-of : (planned : Option ColumnTouches) (whole : Whole)
      → keeps_of column planned (get_or (classes_of held (touches_by planned) whole) 0 none) (get_or (classes_of held (touches_by planned) whole) 1 none) ≡ keeps_among column (touches_by planned) (classes_of held (touches_by planned) whole)
  keeps-of None whole = refl
  keeps-of (Some reference) whole = go (eqb reference.lower reference.upper)
    where
      lower : ColumnTouch
      lower = record { column = reference.lower; write = reference.write }

      upper : ColumnTouch
      upper = record { column = reference.upper; write = reference.write }

      go : (t : Bool) → keeps_of column (Some reference) (get_or (classes_of held (lower ∷ cond t [] (upper ∷ [])) whole) 0 none) (get_or (classes_of held (lower ∷ cond t [] (upper ∷ [])) whole) 1 none)
          ≡ keeps_among column (lower ∷ cond t [] (upper ∷ [])) (classes_of held (lower ∷ cond t [] (upper ∷ [])) whole)
      go true = ap (λ (x : Bool). (eqb reference.lower column && eqb (get_or (classes_of held (lower ∷ []) whole) 0 none) kept) || x) (and-false (eqb reference.upper column))
      go false = ap (λ (x : Bool). (eqb reference.lower column && eqb (get_or (classes_of held (lower ∷ (upper ∷ [])) whole) 0 none) kept) || x)
          (sym (or-last (eqb reference.upper column && eqb (get_or (classes_of held (lower ∷ (upper ∷ [])) whole) 1 none) kept)))

  keeps-blank : (planned : Option ColumnTouches) → keeps_of column planned 0 0 ≡ false
  keeps-blank None = refl
  keeps-blank (Some reference) = rw (and-false (eqb reference.lower column), and-false (eqb reference.upper column))

  keeps-at : (planned : Option ColumnTouches) → touches_in held n ≡ touches_by planned → (cell : Cell Ages) → keeps_of column planned (node_class held n 0 cell) (node_class held n 1 cell) ≡ keeps_at held column n cell
  keeps-at planned e blank = keeps-blank planned
  keeps-at planned e (holds a) = rw e (keeps-of planned (whole_at held n a))

module _ (columns plan : List ℕ) (lent : Lent) (classes before : List ℕ)
    (is : classes ≡ written (table_classes (plan_in columns plan) (table_of (plan_in columns plan) lent)) before) where
  -- Rule 10.4: so many blocks are charged for.
  pub charged-is : (ceilings : List ℕ) → charged_blocks plan classes ceilings ≡ sum_of (blocks_in plan) (λ column. cond (charged_for (plan_in columns plan) (table_of (plan_in columns plan) lent) ceilings column) 1 0)
  charged-is ceilings =
      sum-equal (blocks_in plan) (λ column. cond (any false (nodes_in plan) (charges_at plan classes ceilings column)) 1 0)
      (λ column. cond (charged_for (plan_in columns plan) (table_of (plan_in columns plan) lent) ceilings column) 1 0)
      (λ column h. ap (λ (t : Bool). cond t 1 0) (any_same (nodes_in plan) _ _ (here column)))
    where
      here : (column n : ℕ) → n < nodes_in plan
          → charges_at plan classes ceilings column n ≡ (ltb 0 (get_or ceilings n 0) && keeps_at (plan_in columns plan) column n (cell_at (table_of (plan_in columns plan) lent) n))
      here column n h =
          ap (λ (t : Bool). ltb 0 (get_or ceilings n 0) && t)
          ((λ i. keeps_of column (node_in plan n).what (first-class columns plan lent classes before is n h i) (second-class columns plan lent classes before is n h i))
          ∙ keeps-at (plan_in columns plan) n column (node_in plan n).what (touches-held columns plan n h) (cell_at (table_of (plan_in columns plan) lent) n))

  -- Rules 10.2 and 10.4: the high total.
  pub high-total-is : (figures : Figures)
      → (sums_to classes figures (nodes_in plan)).high + (figures.costs.miss - figures.costs.hit) * charged_blocks plan classes figures.ceilings ≡ high_total (plan_in columns plan) (table_of (plan_in columns plan) lent) figures
  unfolding kept_charge
  high-total-is figures =
      let sums = high_is columns plan lent classes before is figures in
      let blocks = charged-is figures.ceilings in
      λ i. sums i + (figures.costs.miss - figures.costs.hit) * blocks i
