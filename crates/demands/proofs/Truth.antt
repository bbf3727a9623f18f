-- What a passing table says is true of the plain machine at each node of a walk.
use Prim.Native.Nat.{ℕ, zero, suc, ◌<◌}
use mathlib.Core.Bool.{Bool, true, false}
use mathlib.Core.List.{List, [], ◌∷◌}
use mathlib.Core.Path.{◌≡◌, refl, sym, ap, ◌∙◌, subst}
use native.Mathlib.Omega.{arith}
use lib.Dec.{eqb}
use lib.ListN.{get_or}
use Rattle.chart.specs.Record.{Touch}
use Rattle.chart.specs.Chart.{Chart, accepted, read_chart, arrows, touches}
use Rattle.chart.proofs.Accepted.{accepted-entry}
use Rattle.cache.specs.Ages.{Ages, age_of}
use Rattle.kept.specs.Kept.{stays_by}
use Rattle.flow.specs.Flow.{Cell, blank, holds, cell_at}
use Rattle.flow.specs.Passing.{Marked, Passing}
use Rattle.flow.specs.Walk.{Walk, AtTouches}
use Rattle.flow.specs.Truths.{SaysOf, SaysAt}
use Rattle.flow.proofs.Walking.{at-touches, walk-true, walk_begins, at-nodes}
use Rattle.ages.specs.Plan.{ColumnTouch, columns_of}
use Rattle.ages.specs.Charted.{column_touch, plan_of, ages_flow, touched_by}
use Rattle.ages.proofs.Charting.{touches-planned, onward-planned}
use Rattle.classes.specs.Class.{Whole, whole_at, whole_after, class_of, node_class, CalledRight, unreached, none, classes_by, classes_of}
use Rattle.classes.proofs.Calling.{class-counts, classes-mapped}
use Rattle.machine.specs.Machine.{plain_machine, Contents, AgesTrue}
use Rattle.machine.specs.Keeping.{touch_whole}
use Rattle.machine.proofs.Truth.{touch-true, touch-called, plan-truthful, start-true}
use Rattle.costs.specs.Costs.{classes_at}
use Rattle.tables.specs.Lent.{Lent, ages_at, table_of}
use Rattle.tables.proofs.Laid.{table_of-at}
use Rattle.demands.specs.Demand3.{whole_in, SaysTrue, TouchRight, AtEachNode}
use Rattle.demands.specs.Inner.{touch_class, RightHere, Arrives}

-- The classes of a node are those of its touches of blocks.
pub classes-charted : (chart : Chart) (n : ℕ) → n < chart.header.nodes → (a : Ages)
    → classes_at (plan_of chart) n a ≡ classes_by (touch_class chart) (touch_whole chart) (touches chart n) (whole_at (plan_of chart) n a)
classes-charted chart n h a =
    ap (λ (ts : List ColumnTouch). classes_of (plan_of chart) ts (whole_at (plan_of chart) n a)) (touches-planned chart n h)
    ∙ classes-mapped (column_touch chart) (class_of (plan_of chart)) (whole_after (plan_of chart)) (touches chart n) (whole_at (plan_of chart) n a)

module _ (bytes : List ℕ) (chart : Chart) (read : read_chart bytes ≡ accepted chart) (table : Lent) (passing : Passing (ages_flow chart) (table_of (plan_of chart) table)) where
  -- What the table says at a node is true: the node is marked, and its row bounds the ages there.
  abbrev Says : ℕ → Contents chart → Type 0
  Says n contents =
      SaysAt (ages_flow chart) (plain_machine chart) (AgesTrue chart) (table_of (plan_of chart) table) n contents

  abbrev SaysCell : Contents chart → Cell Ages → Type 0
  SaysCell contents cell = SaysOf (ages_flow chart) (plain_machine chart) (AgesTrue chart) cell contents

  arrives : (n : ℕ) (contents : Contents chart) → Says n contents → Arrives chart table n contents
  arrives n contents says = go (eqb (get_or table.marks n 0) 0) refl
    where
      go : (t : Bool) → eqb (get_or table.marks n 0) 0 ≡ t → Arrives chart table n contents
      go true e =
          let cell : cell_at (table_of (plan_of chart) table) n ≡ blank = table_of-at (plan_of chart) table n says.inside ∙ (rw e) in
          absurd (subst (SaysCell contents) cell says.cell-says)
      go false e =
          let cell : cell_at (table_of (plan_of chart) table) n ≡ holds (ages_at (plan_of chart) table n) = table_of-at (plan_of chart) table n says.inside ∙ (rw e) in
          record { inside = says.inside; marked = cell; bounds = subst (SaysCell contents) cell says.cell-says }

  pub walk-arrives : (ts : List ℕ) (contents : Contents chart) → (plain_machine chart).Begins contents → Walk (arrows chart) chart.header.entry ts → AtEachNode chart (Arrives chart table) ts contents
  walk-arrives ts contents begins walk =
      let entry_inside = accepted-entry bytes chart read in
      at-nodes (plain_machine chart) (touches chart) Says (Arrives chart table) arrives chart.header.entry ts contents
      (walk-true (ages_flow chart) (plain_machine chart) (touches chart) (touched_by chart) (AgesTrue chart) (plan-truthful bytes chart read) (table_of (plan_of chart) table) passing chart.header.entry ts contents
      (walk_begins (ages_flow chart) (plain_machine chart) (touches chart) (touched_by chart) (AgesTrue chart) (plan-truthful bytes chart read) (table_of (plan_of chart) table) passing entry_inside contents (start-true bytes chart read contents begins))
      (onward-planned bytes chart read chart.header.entry entry_inside ts walk))

  module _ (n : ℕ) (contents : Contents chart) (arrived : Arrives chart table n contents) where
    pub touches-called : AtTouches (touch_whole chart) (plain_machine chart).act (TouchRight chart) (touches chart n) (whole_in chart table n) contents
    touches-called =
        at-touches (touch_whole chart) (plain_machine chart).act (λ whole. AgesTrue chart whole.ages) (TouchRight chart) (touches chart n)
        (λ t among whole c. touch-true bytes chart read n arrived.inside t among whole.ages c) (touch-called bytes chart read n arrived.inside) (whole_in chart table n) contents arrived.bounds

    -- The classes that the table has for the node.
    abbrev classes : List ℕ
    classes = classes_by (touch_class chart) (touch_whole chart) (touches chart n) (whole_in chart table n)

    class_is : (k : ℕ) → node_class (plan_of chart) n k (cell_at (table_of (plan_of chart) table) n) ≡ get_or classes k none
    class_is k =
        ap (node_class (plan_of chart) n k) arrived.marked
        ∙ ap (λ (l : List ℕ). get_or l k none) (classes-charted chart n arrived.inside (ages_at (plan_of chart) table n))

    module _ (made : List Touch) (all : touches chart n ≡ made) where
      -- The same by what the node is known to touch.
      made-class : (k : ℕ) → get_or (classes_by (touch_class chart) (touch_whole chart) made (whole_in chart table n)) k none ≡ node_class (plan_of chart) n k (cell_at (table_of (plan_of chart) table) n)
      made-class k =
          sym (class_is k ∙ ap (λ (ts : List Touch). get_or (classes_by (touch_class chart) (touch_whole chart) ts (whole_in chart table n)) k none) all)

      made-called : AtTouches (touch_whole chart) (plain_machine chart).act (TouchRight chart) made (whole_in chart table n) contents
      made-called =
          subst (λ (ts : List Touch). AtTouches (touch_whole chart) (plain_machine chart).act (TouchRight chart) ts (whole_in chart table n) contents) all touches-called

    pub arrived-true : SaysTrue chart table n contents
    arrived-true =
        record {
          marked = subst Marked (sym arrived.marked) tt;
          ages_true = arrived.bounds;
          first_right = λ touch rest all.
              subst (λ (class : ℕ). CalledRight class ((plain_machine chart).finds touch contents)) (made-class (touch ∷ rest) all 0)
              (made-called (touch ∷ rest) all).0;
          second_right = λ touch other rest all.
              subst (λ (class : ℕ). CalledRight class ((plain_machine chart).finds other ((plain_machine chart).act touch contents))) (made-class (touch ∷ other ∷ rest) all 1)
              (made-called (touch ∷ other ∷ rest) all).1.0;
          called_right = touches-called;
        }

    -- A node that is arrived at is not called unreached.
    pub arrived-reached : (k : ℕ) → node_class (plan_of chart) n k (cell_at (table_of (plan_of chart) table) n) ≡ unreached → ⊥
    arrived-reached k e = go (touches chart n) (whole_in chart table n) k (sym (class_is k) ∙ e)
      where
        go : (ts : List Touch) (whole : Whole) (i : ℕ) → get_or (classes_by (touch_class chart) (touch_whole chart) ts whole) i none ≡ unreached → ⊥
        go [] whole i q = omega arith
        go (touch ∷ ts) whole zero q =
            let column = (column_touch chart touch).column in
            (class-counts ((columns_of (plan_of chart)).must_limit column) (age_of whole.ages.must column) (age_of whole.ages.may column) (stays_by (plan_of chart) column (whole.since column))).0 q
        go (touch ∷ ts) whole (suc i) q = go ts (touch_whole chart touch whole) i q

    abbrev pub arrived_right : RightHere chart table n contents
    arrived_right =
        record {
          inside = arrived.inside;
          state = ages_at (plan_of chart) table n;
          marked = arrived.marked;
          classed = classes-charted chart n arrived.inside (ages_at (plan_of chart) table n);
          right = touches-called;
        }
