-- From what settling, clearing and classing leave in each buffer to what the analysis is defined to leave.
use Rattle.std.specs.Prelude.{None, Option, Some}
use Prim.Native.Nat.{ℕ, zero, ◌*◌, ◌≤◌}
use mathlib.Core.List.{List}
use mathlib.Core.Path.{◌≡◌, sym, ap, subst, ◌∙◌}
use lib.ListN.{length, get_or, replicate}
use Rattle.lists.specs.Lists.{written, padded}
use Rattle.lists.specs.Loops.{patch}
use Rattle.lists.proofs.Listed.{list_of-same, list_of-all}
use Rattle.lists.proofs.Lists.{get_or-padded}
use Rattle.lists.proofs.Loops.{patch-written}
use Rattle.chart.specs.Geometry.{most_blocks, most_touches}
use Rattle.cache.specs.Ages.{Ages}
use Rattle.flow.specs.Flow.{Cell}
use Rattle.flow.specs.Pass.{before, after_passes}
use Rattle.ages.specs.Plan.{Plan, plan_flow}
use Rattle.classes.specs.Class.{table_classes}
use Rattle.tables.specs.Lent.{Lent, table_of, over}
use Rattle.tables.proofs.Laid.{zeros-over, table-over, over-over}
use Rattle.tables.proofs.Fitting.{blanks-fit, before-fits, after_passes-fits}
use Rattle.settling.specs.Inner.{Begun, SettledIn}
use Rattle.analysis.specs.Analysis.{classes_used, finish, settled_after, unsettled}
use Rattle.analysis.specs.Inner.{blank_over, buffers_by, Finishes}
use Rattle.analysis.proofs.Starting.{zeros-written}

-- The block list, as it is copied from the reader's array.
pub blocks-written : (list array blocks : List ℕ) → array ≡ padded most_blocks list → length list ≤ length blocks
    → patch blocks 0 (length list) (λ k. get_or array k 0) ≡ written list blocks
blocks-written list array blocks is room =
    patch-written blocks (length list) (λ k. get_or array k 0) room
    ∙ ap (λ (l : List ℕ). written l blocks)
    (list_of-same (length list) (λ k. get_or array k 0) (λ k. get_or list k 0) (λ k lt. ap (λ (l : List ℕ). get_or l k 0) is ∙ get_or-padded most_blocks list k lt)
    ∙ list_of-all list 0)

module _ (plan : Plan) (lent begin : Lent) (begins : begin ≡ over plan (before (plan_flow plan)) lent) where
  pub started-begun : Begun plan begin
  started-begun =
      begins ∙ sym (ap (over plan (before (plan_flow plan))) begins ∙ over-over plan (before-fits plan) (before-fits plan) lent)

  module _ (allowance : ℕ) (classes : List ℕ) (settling : Option ℕ) (left : Lent) (done : SettledIn plan allowance begin settling left)
      (count : ℕ) (count_is : count ≡ plan.blocks) where
    -- What is laid over the table that passes began with is laid over what was lent.
    left_over : (passes : ℕ) → left ≡ over plan (after_passes (plan_flow plan) passes) begin → left ≡ over plan (after_passes (plan_flow plan) passes) lent
    left_over passes e =
        e ∙ ap (over plan (after_passes (plan_flow plan) passes)) begins ∙ over-over plan (before-fits plan) (after_passes-fits plan passes) lent

    -- A table that settled, and its classes.
    pub settled-left : (passes : ℕ) → settling ≡ Some passes
        → (told : List ℕ) → told ≡ written (table_classes plan (table_of plan left)) classes
        → Finishes plan allowance lent classes (settled_after passes count) left told
    unfolding finish
    settled-left passes is told e list blocks =
        let made = subst (λ (r : Option ℕ). SettledIn plan allowance begin r left) is done in
        let laid = left_over passes made.table in
        let table : table_of plan left ≡ after_passes (plan_flow plan) passes = ap (table_of plan) laid ∙ table-over plan (after_passes-fits plan passes) lent in
        let named : told ≡ written (table_classes plan (after_passes (plan_flow plan) passes)) classes = e ∙ ap (λ (t : List (Cell Ages)). written (table_classes plan t) classes) table in
        (λ i. record { answer = settled_after passes (count_is i); buffers = buffers_by (written list blocks) (laid i) (named i) })
        ∙ ap (finish plan list allowance (buffers_by blocks lent classes)) made.answered

    -- A table that did not: zeros in its place, and for the classes.
    pub spent-left : settling ≡ None → classes_used plan ≤ length classes
        → (zeros : Lent) → zeros ≡ blank_over plan left
        → (nodes : ℕ) → nodes ≡ plan.nodes → (told : List ℕ) → told ≡ patch classes 0 (most_touches * nodes) (λ j. 0)
        → Finishes plan allowance lent classes (unsettled allowance count) zeros told
    unfolding finish
    spent-left is room zeros z nodes nodes_are told e list blocks =
        let made = subst (λ (r : Option ℕ). SettledIn plan allowance begin r left) is done in
        let over-lent : zeros ≡ blank_over plan lent = z ∙ ap (blank_over plan) (left_over allowance made.table) ∙ over-over plan (after_passes-fits plan allowance) (blanks-fit plan) lent in
        let named : told ≡ written (replicate (classes_used plan) zero) classes = e ∙ ap (λ (n : ℕ). patch classes 0 (most_touches * n) (λ j. 0)) nodes_are ∙ zeros-written classes (classes_used plan) room in
        (λ i. record { answer = unsettled allowance (count_is i); buffers = buffers_by (written list blocks) (over-lent i) (named i) })
        ∙ (λ i. record {
          answer = unsettled allowance plan.blocks;
          buffers = record {
            blocks = written list blocks;
            must = written (zeros-over plan i).must lent.must;
            may = written (zeros-over plan i).may lent.may;
            marks = written (zeros-over plan i).marks lent.marks;
            classes = written (replicate (classes_used plan) zero) classes;
          };
        })
        ∙ ap (finish plan list allowance (buffers_by blocks lent classes)) made.answered
