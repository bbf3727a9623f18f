-- A table cleared is the one without a mark, and the start met into that is the table before the first pass.
use Prim.Native.Nat.{ℕ, zero, ◌≤◌}
use mathlib.Core.Bool.{Bool, false}
use mathlib.Core.List.{List}
use mathlib.Core.Path.{◌≡◌, sym, ap, ◌∙◌}
use lib.ListN.{length, replicate, get_or-replicate}
use Rattle.lists.specs.Lists.{written}
use Rattle.lists.specs.Loops.{patch}
use Rattle.lists.proofs.Listed.{list_of-const}
use Rattle.lists.proofs.Loops.{patch-written}
use Rattle.chart.specs.Geometry.{most_blocks}
use Rattle.cache.specs.Ages.{Ages, start_ages}
use Rattle.flow.specs.Flow.{Cell, blank}
use Rattle.flow.specs.Pass.{Run, met, met_at, put, before}
use Rattle.ages.specs.Plan.{Plan, plan_flow}
use Rattle.plan.specs.Listed.{blocks_in, entry_in, empty_in, plan_in, Drawn}
use Rattle.rows.specs.declared.Row.{Row}
use Rattle.rows.specs.Rows.{columns_by, ages_in, as_row}
use Rattle.tables.specs.Lent.{Lent, ages_used, marks_used, over}
use Rattle.tables.specs.Inner.{LentRun, Roomy, met_into}
use Rattle.tables.proofs.Laid.{zeros-over}
use Rattle.tables.proofs.Fitting.{ages-fit, blanks-fit}
use Rattle.tables.proofs.Meeting.{met-laid}
use Rattle.tables.proofs.After.{start-agrees}
use Rattle.analysis.specs.Inner.{blank_over}

-- ---- zeros

pub zeros-written : (l : List ℕ) (n : ℕ) → n ≤ length l → patch l 0 n (λ j. 0) ≡ written (replicate n zero) l
zeros-written l n h = patch-written l n (λ j. 0) h ∙ ap (λ (z : List ℕ). written z l) (list_of-const n zero)

pub cleared-blank : (plan : Plan) (lent : Lent) → Roomy plan.nodes plan.blocks lent.must lent.may lent.marks
    → record { must = patch lent.must 0 (ages_used plan) (λ j. 0); may = patch lent.may 0 (ages_used plan) (λ j. 0); marks = patch lent.marks 0 (marks_used plan) (λ j. 0) }
    ≡ blank_over plan lent
cleared-blank plan lent room = λ i. record {
  must = (zeros-written lent.must (ages_used plan) room.must_room ∙ ap (λ (t : Lent). written t.must lent.must) (sym (zeros-over plan))) i;
  may = (zeros-written lent.may (ages_used plan) room.may_room ∙ ap (λ (t : Lent). written t.may lent.may) (sym (zeros-over plan))) i;
  marks = (zeros-written lent.marks (marks_used plan) room.marks_room ∙ ap (λ (t : Lent). written t.marks lent.marks) (sym (zeros-over plan))) i;
}

-- ---- the start

module _ (columns plan : List ℕ) (drawn : Drawn columns plan) (lent : Lent) where
  abbrev held : Plan
  held = plan_in columns plan

  abbrev unmarked : Run Ages
  unmarked = record { table = replicate held.nodes blank; changed = false }

  -- An unmarked entry takes the start as it is.
  entry-takes : (put (plan_flow held) (plan_flow held).start (entry_in plan) unmarked).table ≡ before (plan_flow held)
  unfolding put met_at met before
  entry-takes = rw (get_or-replicate {A = Cell Ages} held.nodes (entry_in plan) blank blank drawn.sound.entry_inside)

  pub start-before : (blocks entry : ℕ) → blocks ≡ blocks_in plan → entry ≡ entry_in plan
      → (empty : Bool) → empty ≡ empty_in plan → (row : Row) → row ≡ as_row (start_ages (columns_by columns most_blocks) empty)
      → (zeros : Lent) → zeros ≡ blank_over held lent → (left : LentRun) → left ≡ met_into blocks entry (ages_in row) (record { lent = zeros; changed = false })
      → left.lent ≡ over held (before (plan_flow held)) lent
  start-before blocks entry blocks_are entry_is empty empty-is row row_is zeros zeros-are left left_is =
      ap (λ (r : LentRun). r.lent)
      (left_is
      ∙ (λ i. met_into (blocks_are i) (entry_is i) (ages_in (row_is i)) (record { lent = zeros-are i; changed = false }))
      ∙ ap (λ (e : Bool). met_into (blocks_in plan) (entry_in plan) (start_ages (columns_by columns most_blocks) e) (record { lent = blank_over held lent; changed = false })) empty-is
      ∙ met-laid held lent unmarked (blanks-fit held) (entry_in plan) drawn.sound.entry_inside (start_ages (columns_by columns most_blocks) (empty_in plan)) (plan_flow held).start (ages-fit held).start_fits (start-agrees columns plan drawn))
      ∙ ap (λ (t : List (Cell Ages)). over held t lent) entry-takes
