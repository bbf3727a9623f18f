-- Stores into a plan's lists: a turn of the loop over columns, the numbers of a node, and a turn of the loop over nodes.
use Rattle.std.specs.Prelude.{None, Option, Some}
use Prim.Native.Nat.{ℕ, zero, suc, ◌+◌, ◌*◌, ◌/◌, ◌%◌, ◌≤◌, ◌<◌}
use mathlib.Core.Bool.{Bool, true, false, cond}
use mathlib.Core.List.{List}
use mathlib.Core.Path.{◌≡◌, refl, sym, ap, subst, ◌∙◌}
use native.Mathlib.Omega.{arith}
use borrow.Author.Count.{below_more}
use lib.ListN.{length, get_or, set, length-set}
use lib.Seq.{get_or-set_same, get_or-set_other}
use Rattle.lists.specs.Loops.{patch}
use Rattle.lists.proofs.Loops.{patch-in}
use Rattle.chart.specs.declared.shape.Geometry.{Geometry}
use Rattle.chart.specs.declared.records.Node.{Node}
use Rattle.chart.specs.Geometry.{most_blocks}
use Rattle.chart.specs.Chart.{node_at}
use Rattle.plan.specs.Listed.{node_place, planned_of, node_from, node_in}
use Rattle.drawing.specs.Columns.{first_alike, ColumnsDrawn}
use Rattle.drawing.specs.Nodes.{kind_number, columns_number, deed_number, node_numbers, ColumnsNarrow, Narrow, planned_by, node_by, NodesDrawn}
use Rattle.plan.specs.declared.ColumnTouches.{ColumnTouches}
use Rattle.chart.specs.declared.records.Reference.{Reference}

-- ---- columns

module _ (l : List ℕ) (k key must may : ℕ) (few : k < most_blocks) (long : 3 * most_blocks ≤ length l) where
  abbrev stored : List ℕ
  stored = set (set (set l k key) (most_blocks + k) must) (2 * most_blocks + k) may

  key-stored : get_or stored k 0 ≡ key
  key-stored =
      get_or-set_other (set (set l k key) (most_blocks + k) must) (2 * most_blocks + k) k may 0 (λ e. omega arith)
      ∙ get_or-set_other (set l k key) (most_blocks + k) k must 0 (λ e. omega arith)
      ∙ get_or-set_same l k key 0 (omega arith)

  must-stored : get_or stored (most_blocks + k) 0 ≡ must
  must-stored =
      get_or-set_other (set (set l k key) (most_blocks + k) must) (2 * most_blocks + k) (most_blocks + k) may 0 (λ e. omega arith)
      ∙ get_or-set_same (set l k key) (most_blocks + k) must 0 (omega (arith, length-set l k key))

  may-stored : get_or stored (2 * most_blocks + k) 0 ≡ may
  may-stored =
      get_or-set_same (set (set l k key) (most_blocks + k) must) (2 * most_blocks + k) may 0 (omega (arith, length-set (set l k key) (most_blocks + k) must, length-set l k key))

  others-stay : (j : ℕ) → (j ≡ k → ⊥) → (j ≡ most_blocks + k → ⊥) → (j ≡ 2 * most_blocks + k → ⊥) → get_or stored j 0 ≡ get_or l j 0
  others-stay j one two three =
      get_or-set_other (set (set l k key) (most_blocks + k) must) (2 * most_blocks + k) j may 0 three
      ∙ get_or-set_other (set l k key) (most_blocks + k) j must 0 two
      ∙ get_or-set_other l k j key 0 one

pub columns-turn : (sets : List ℕ) (limit k : ℕ) (l : List ℕ) (key : ℕ) → k < most_blocks → 3 * most_blocks ≤ length l
    → ColumnsDrawn sets limit k l → key ≡ first_alike sets k → ColumnsDrawn sets limit (k + 1) (set (set (set l k key) (most_blocks + k) limit) (2 * most_blocks + k) limit)
columns-turn sets limit k l key few long drawn is =
    let after : List ℕ = stored l k key limit limit few long in
    let others = others-stay l k key limit limit few long in
    record {
      keys = below_more (λ j. get_or after j 0 ≡ first_alike sets j) k (λ j h. others j (λ e. omega arith) (λ e. omega arith) (λ e. omega arith) ∙ drawn.keys j h) (key-stored l k key limit limit few long ∙ is);
      must-limits = below_more (λ j. get_or after (most_blocks + j) 0 ≡ limit) k (λ j h. others (most_blocks + j) (λ e. omega arith) (λ e. omega arith) (λ e. omega arith) ∙ drawn.must-limits j h) (must-stored l k key limit limit few long);
      may-limits = below_more (λ j. get_or after (2 * most_blocks + j) 0 ≡ limit) k (λ j h. others (2 * most_blocks + j) (λ e. omega arith) (λ e. omega arith) (λ e. omega arith) ∙ drawn.may-limits j h) (may-stored l k key limit limit few long);
    }

-- ---- nodes

-- What stands before the places that a loop stores at is as it was.
patch-behind : (l : List ℕ) (base n : ℕ) (f : ℕ → ℕ) (k : ℕ) → k < base → get_or (patch l base n f) k 0 ≡ get_or l k 0
patch-behind l base zero f k h = refl
patch-behind l base (suc n) f k h =
    get_or-set_other (patch l base n f) (base + n) k (f n) 0 (λ e. omega arith) ∙ patch-behind l base n f k h

-- A record, read back from its numbers.
planned-back : (planned : Option ColumnTouches) → ColumnsNarrow planned → planned_of (kind_number planned) (columns_number planned % most_blocks) (columns_number planned / most_blocks) ≡ planned
planned-back None narrow = refl
planned-back (Some reference) narrow =
    let lower : columns_number (Some reference) % most_blocks ≡ reference.lower = omega (arith, narrow.0) in
    let upper : columns_number (Some reference) / most_blocks ≡ reference.upper = omega (arith, narrow.0) in
    (λ i. planned_of (cond reference.write 2 1) (lower i) (upper i)) ∙ go reference.write
  where
    go : (write : Bool) → planned_of (cond write 2 1) reference.lower reference.upper ≡ Some (record { lower = reference.lower; upper = reference.upper; write = write })
    go true = refl
    go false = refl

kind-few : (planned : Option ColumnTouches) → kind_number planned < 4
kind-few None = omega arith
kind-few (Some reference) = go reference.write
  where
    go : (write : Bool) → cond write 2 1 < 4
    go true = omega arith
    go false = omega arith

-- Kind, number of arrows and columns, read back from the one number.
deed-back : (kind outs columns : ℕ) → kind < 4 → outs < 4
    → (deed_number kind outs columns % 4 ≡ kind) × ((deed_number kind outs columns / 4 % 4 ≡ outs) × (deed_number kind outs columns / 16 ≡ columns))
deed-back kind outs columns k o = (omega arith, (omega arith, omega arith))

module _ (n : ℕ) (node : Node ColumnTouches) (plan after : List ℕ) (narrow : Narrow node) (room : node_place n + 3 ≤ length plan) (put : after ≡ patch plan (node_place n) 3 (λ k. get_or (node_numbers node) k 0)) where
  number : (k : ℕ) → k < 3 → get_or after (node_place n + k) 0 ≡ get_or (node_numbers node) k 0
  number k h = ap (λ (l : List ℕ). get_or l (node_place n + k) 0) put ∙ patch-in plan (node_place n) 3 (λ j. get_or (node_numbers node) j 0) k room h

  deed : get_or after (node_place n) 0 ≡ deed_number (kind_number node.what) node.targets.outs (columns_number node.what)
  deed = let here : node_place n + 0 ≡ node_place n = omega arith in rw here at (number 0 (omega arith))

  node-back : node_in after n ≡ node
  node-back =
      let kind : ℕ = kind_number node.what in
      let outs : ℕ = node.targets.outs in
      let columns : ℕ = columns_number node.what in
      let back = deed-back kind outs columns (kind-few node.what) narrow.outs in
      (λ i. node_from (deed i) (number 1 (omega arith) i) (number 2 (omega arith) i))
      ∙ (λ i. record {
        what = ((λ j. planned_of (back.0 j) (back.1.1 j % most_blocks) (back.1.1 j / most_blocks)) ∙ planned-back node.what narrow.columns) i;
        targets = record { outs = back.1.0 i; first = node.targets.first; second = node.targets.second };
      })

  before-stays : (k : ℕ) → k < node_place n → get_or after k 0 ≡ get_or plan k 0
  before-stays k h = ap (λ (l : List ℕ). get_or l k 0) put ∙ patch-behind plan (node_place n) 3 (λ j. get_or (node_numbers node) j 0) k h

  node_stays : (m : ℕ) → m < n → node_in after m ≡ node_in plan m
  node_stays m h =
      λ i. node_from (before-stays (node_place m) (omega arith) i) (before-stays (node_place m + 1) (omega arith) i) (before-stays (node_place m + 2) (omega arith) i)

  pub nodes-turn : (each : ℕ → Node ColumnTouches) (start : List ℕ) → NodesDrawn n each start plan → node ≡ each n → NodesDrawn (n + 1) each start after
  nodes-turn each start drawn is =
      record {
        head_stays = λ k h. before-stays k (omega arith) ∙ drawn.head_stays k h;
        nodes = below_more (λ m. node_in after m ≡ each m) n (λ m h. node_stays m h ∙ drawn.nodes m h) (node-back ∙ is);
      }

pub nodes-none : (each : ℕ → Node ColumnTouches) (plan : List ℕ) → NodesDrawn 0 each plan plan
nodes-none each plan = record { head_stays = λ k h. refl; nodes = λ n h. absurd (omega arith) }

pub columns-none : (sets : List ℕ) (limit : ℕ) (columns : List ℕ) → ColumnsDrawn sets limit 0 columns
columns-none sets limit columns =
    record {
      keys = λ k h. absurd (omega arith);
      must-limits = λ k h. absurd (omega arith);
      may-limits = λ k h. absurd (omega arith);
    }

-- ---- what a chart's node does

-- A chart's node as the functions work it out: with its record as planned, and the arrows as they are.
module _ (geometry : Geometry) (blocks bytes : List ℕ) (n : ℕ) (node : Node Reference) (planned : Option ColumnTouches) (read : node ≡ node_at bytes n) (planned-is : planned ≡ planned_by geometry blocks node.what) where
  pub node-planned : record { what = planned; targets = node.targets } ≡ node_by geometry blocks (node_at bytes n)
  node-planned = (λ i. record { what = planned-is i; targets = node.targets }) ∙ ap (node_by geometry blocks) read

  pub node-narrow : ColumnsNarrow (planned_by geometry blocks (node_at bytes n).what) → Narrow (record { what = planned; targets = node.targets })
  node-narrow narrow =
      subst Narrow (sym node-planned)
      (record {
        columns = narrow;
        outs = omega arith;
        first = omega arith;
        second = omega arith;
      })
