use borrow.Author.Rules.{rules}
use Rattle.std.specs.Prelude.{Some}
use native.Mathlib.Omega.{arith}
use Prim.Native.Nat.{ℕ, ◌+◌, ◌*◌, ◌<◌}
use mathlib.Core.Bool.{false}
use mathlib.Core.Path.{◌≡◌, ap, sym, subst, ◌∙◌}
use lib.ListN.{get_or}
use Rattle.lists.proofs.Joined.{row_in}
use Rattle.plan.specs.Listed.{nodes_in, blocks_in, node_in}
use Rattle.tables.specs.AsTable.{lent_as}
use Rattle.chart.specs.Geometry.{most_blocks}
use Rattle.classes.specs.Class.{none, class_by}
use Rattle.classing.specs.declared.Pair.{Pair}
use Rattle.classing.specs.declared.Classes.{Classes}
use Rattle.classing.specs.Both.{pair_at, class_after}
use Rattle.classing.proofs.Reading.{unmarked-classes, step-classes, reference-in, once-classes, twice-classes}
use Rattle.classing.proofs.classes_at.Goals as goal
use Rattle.classing.proofs.classes_at.Goals.{In-Some}
use Rattle.chart.specs.declared.records.Node.{Node}
use Rattle.plan.specs.declared.ColumnTouches.{ColumnTouches}

abbrev both_of : ℕ → ℕ → Classes
both_of first second = record { first = first; second = second }

-- What the node does, and that it is of two of the columns.
does : (c : In-Some) → (node_in c.args.table.plan.numbers.now c.args.n).what ≡ Some c.in-Some.reference
does c = ap (λ (node : Node ColumnTouches). node.what) (sym c.node-node.ensures) ∙ c.in-Some.is

both-in : (c : In-Some) → (c.in-Some.reference.lower < blocks_in c.args.table.plan.numbers.now) × (c.in-Some.reference.upper < blocks_in c.args.table.plan.numbers.now)
both-in c = reference-in c.args.table.plan.columns.now c.args.table.plan.numbers.now c.args.table.plan.drawn c.args.n c.requires c.in-Some.reference (does c)

pub returns-then-ages-n-eq0 : goal.returns-then-ages-n-eq0
returns-then-ages-n-eq0 c = unmarked-classes c.args.table.plan.columns.now c.args.table.plan.numbers.now (lent_as c.args.table.table) c.args.n c.requires c.if-ages-n-eq0.true

pub returns-in_default : goal.returns-in_default
returns-in_default c = step-classes c.args.table.plan.columns.now c.args.table.plan.numbers.now (lent_as c.args.table.table) c.args.n c.requires c.if-ages-n-eq0.false
    (ap (λ (node : Node ColumnTouches). node.what) (sym c.node-node.ensures) ∙ c.in_default.is)

pub pair_at-before-requires : goal.pair_at-before-requires
pair_at-before-requires c = let place_in : (column : ℕ) → column < blocks_in c.args.table.plan.numbers.now → c.args.n * c.blocks-blocks.result + column < nodes_in c.args.table.plan.numbers.now * blocks_in c.args.table.plan.numbers.now = λ column h. subst (λ (count : ℕ). c.args.n * count + column < nodes_in c.args.table.plan.numbers.now * blocks_in c.args.table.plan.numbers.now) (sym c.blocks-blocks.ensures)
    (omega (arith, h, row_in c.args.n (nodes_in c.args.table.plan.numbers.now) (blocks_in c.args.table.plan.numbers.now) c.requires)) in
    let h = place_in c.in-Some.reference.lower (both-in (goal.at.pair_at-before-requires c).In-Some).0 in
    (omega (arith, h, c.args.table.roomy.must_room), omega (arith, h, c.args.table.roomy.may_room))

pub pair_at-other-requires : goal.pair_at-other-requires
pair_at-other-requires c = let place_in : (column : ℕ) → column < blocks_in c.args.table.plan.numbers.now → c.args.n * c.blocks-blocks.result + column < nodes_in c.args.table.plan.numbers.now * blocks_in c.args.table.plan.numbers.now = λ column h. subst (λ (count : ℕ). c.args.n * count + column < nodes_in c.args.table.plan.numbers.now * blocks_in c.args.table.plan.numbers.now) (sym c.blocks-blocks.ensures)
    (omega (arith, h, row_in c.args.n (nodes_in c.args.table.plan.numbers.now) (blocks_in c.args.table.plan.numbers.now) c.requires)) in
    let h = place_in c.in-Some.reference.upper (both-in (goal.at.pair_at-other-requires c).In-Some).1 in
    (omega (arith, h, c.args.table.roomy.must_room), omega (arith, h, c.args.table.roomy.may_room))

pub overflow_add-row-2 : goal.overflow_add-row-2
overflow_add-row-2 c = let h = both-in (goal.at.overflow_add-row-2 c).In-Some in search (rules, h.1)

pub class_after-second-requires-clause-lower_lt_most_blocks : goal.class_after-second-requires-clause-lower_lt_most_blocks
class_after-second-requires-clause-lower_lt_most_blocks c = let h = both-in (goal.at.class_after-second-requires-clause-lower_lt_most_blocks c).In-Some in
    let few = c.args.table.plan.drawn.few_blocks in
    (omega (arith, h.0, few), omega (arith, h.1, few))

pub returns-then-lower-upper : goal.returns-then-lower-upper
returns-then-lower-upper c = let pair_is : (column : ℕ) → pair_at c.args.table.table.must.now c.args.table.table.may.now (c.args.n * c.blocks-blocks.result + column) ≡ pair_at c.args.table.table.must.now c.args.table.table.may.now (c.args.n * blocks_in c.args.table.plan.numbers.now + column) = λ column. ap (λ (count : ℕ). pair_at c.args.table.table.must.now c.args.table.table.may.now (c.args.n * count + column)) c.blocks-blocks.ensures in
    ap (λ (first : ℕ). both_of first none) ((let the-first-is : c.class_of-first.result ≡ class_by (get_or c.args.table.plan.columns.now (most_blocks + c.in-Some.reference.lower) 0) (pair_at c.args.table.table.must.now c.args.table.table.may.now (c.args.n * blocks_in c.args.table.plan.numbers.now + c.in-Some.reference.lower)).must (pair_at c.args.table.table.must.now c.args.table.table.may.now (c.args.n * blocks_in c.args.table.plan.numbers.now + c.in-Some.reference.lower)).may false = c.class_of-first.ensures ∙ ap (λ (pair : Pair). class_by (get_or c.args.table.plan.columns.now (most_blocks + c.in-Some.reference.lower) 0) pair.must pair.may false) (c.pair_at-before.ensures ∙ pair_is c.in-Some.reference.lower) in the-first-is))
    ∙ once-classes c.args.table.plan.columns.now c.args.table.plan.numbers.now (lent_as c.args.table.table) c.args.n c.requires c.if-ages-n-eq0.false c.args.table.plan.drawn c.in-Some.reference (does (goal.at.returns-then-lower-upper c).In-Some) c.if-lower-upper.true

pub returns : goal.returns
returns c = let pair_is : (column : ℕ) → pair_at c.args.table.table.must.now c.args.table.table.may.now (c.args.n * c.blocks-blocks.result + column) ≡ pair_at c.args.table.table.must.now c.args.table.table.may.now (c.args.n * blocks_in c.args.table.plan.numbers.now + column) = λ column. ap (λ (count : ℕ). pair_at c.args.table.table.must.now c.args.table.table.may.now (c.args.n * count + column)) c.blocks-blocks.ensures in
    let before = c.pair_at-before.ensures ∙ pair_is c.in-Some.reference.lower in
    let other = c.pair_at-other.ensures ∙ pair_is c.in-Some.reference.upper in
    let second = c.class_after-second.ensures ∙ (λ i. class_after c.args.table.plan.columns.now c.in-Some.reference.lower c.in-Some.reference.upper (before i) (other i)) in
    (λ i. both_of ((let the-first-is : c.class_of-first.result ≡ class_by (get_or c.args.table.plan.columns.now (most_blocks + c.in-Some.reference.lower) 0) (pair_at c.args.table.table.must.now c.args.table.table.may.now (c.args.n * blocks_in c.args.table.plan.numbers.now + c.in-Some.reference.lower)).must (pair_at c.args.table.table.must.now c.args.table.table.may.now (c.args.n * blocks_in c.args.table.plan.numbers.now + c.in-Some.reference.lower)).may false = c.class_of-first.ensures ∙ ap (λ (pair : Pair). class_by (get_or c.args.table.plan.columns.now (most_blocks + c.in-Some.reference.lower) 0) pair.must pair.may false) (c.pair_at-before.ensures ∙ pair_is c.in-Some.reference.lower) in the-first-is) i) (second i))
    ∙ twice-classes c.args.table.plan.columns.now c.args.table.plan.numbers.now (lent_as c.args.table.table) c.args.n c.requires c.if-ages-n-eq0.false c.args.table.plan.drawn c.in-Some.reference (does (goal.at.returns c).In-Some) c.if-lower-upper.false
