-- What a plan in two flat lists says of each node and column: it is what stands in the lists, and within them.
use Rattle.std.specs.Prelude.{None, Option, Some}
use Prim.Native.Nat.{ℕ, ◌+◌, ◌*◌, ◌≤◌, ◌<◌}
use mathlib.Core.Bool.{Bool, true, false}
use mathlib.Core.List.{List}
use mathlib.Core.Logic.{inl, inr}
use mathlib.Core.Path.{◌≡◌, refl, sym, ap, subst}
use native.Mathlib.Omega.{arith}
use borrow.Author.Tests.{ne_eqb, eqb-true}
use lib.Dec.{eqb}
use lib.ListN.{get_or, length}
use Rattle.lists.specs.Lists.{Among}
use Rattle.lists.proofs.Listed.{get_or-list_of}
use Rattle.chart.specs.Geometry.{most_blocks}
use Rattle.chart.specs.Record.{arrows_of, Leads}
use Rattle.chart.specs.declared.records.Targets.{Targets}
use Rattle.ages.specs.Plan.{ColumnTouch, PlanNode, nothing, columns_of, touches_in, arrows_in}
use Rattle.plan.specs.Listed.{nodes_in, blocks_in, node_place, node_in, touches_by, plan_node, plan_in, Drawn, RecordIn}
use Rattle.plan.specs.declared.ColumnTouches.{ColumnTouches}

-- ---- arrows that lead to nodes, from what is known of each

module _ (nodes : ℕ) (targets : Targets) (inside : (t : ℕ) → Among t (arrows_of targets) → t < nodes) where
  first-leads : 0 < targets.outs → targets.first < nodes
  unfolding arrows_of
  first-leads some = go (eqb targets.outs 0) refl (eqb targets.outs 1) refl
    where
      go : (none : Bool) → eqb targets.outs 0 ≡ none → (one : Bool) → eqb targets.outs 1 ≡ one → targets.first < nodes
      go true d one e = let z = eqb-true targets.outs 0 d in absurd (omega arith)
      go false d true e = inside targets.first (rw (d, e) (inl refl))
      go false d false e = inside targets.first (rw (d, e) (inl refl))

  second-leads : 1 < targets.outs → targets.second < nodes
  unfolding arrows_of
  second-leads more =
      inside targets.second (rw (ne_eqb targets.outs 0 (λ e. omega arith), ne_eqb targets.outs 1 (λ e. omega arith)) (inr (inl refl)))

  pub arrows-lead : Leads nodes targets
  arrows-lead = record { first_in = first-leads; second_in = second-leads }

-- ---- what the lists hold

module _ (columns plan : List ℕ) where
  step-held : (n : ℕ) → n < nodes_in plan → get_or (plan_in columns plan).steps n nothing ≡ plan_node (node_in plan n)
  step-held n h = get_or-list_of (nodes_in plan) (λ k. plan_node (node_in plan k)) nothing n h

  pub touches-held : (n : ℕ) → n < nodes_in plan → touches_in (plan_in columns plan) n ≡ touches_by (node_in plan n).what
  touches-held n h = ap (λ (node : PlanNode). node.touches) (step-held n h)

  pub arrows-held : (n : ℕ) → n < nodes_in plan → arrows_in (plan_in columns plan) n ≡ arrows_of (node_in plan n).targets
  arrows-held n h = ap (λ (node : PlanNode). node.arrows) (step-held n h)

  pub key-held : (column : ℕ) → column < blocks_in plan → (columns_of (plan_in columns plan)).key column ≡ get_or columns column 0
  key-held column h = get_or-list_of (blocks_in plan) (λ k. get_or columns k 0) 0 column h

  pub must-limit-held : (column : ℕ) → column < blocks_in plan → (columns_of (plan_in columns plan)).must_limit column ≡ get_or columns (most_blocks + column) 0
  must-limit-held column h = get_or-list_of (blocks_in plan) (λ k. get_or columns (most_blocks + k) 0) 0 column h

  pub may-limit-held : (column : ℕ) → column < blocks_in plan → (columns_of (plan_in columns plan)).may_limit column ≡ get_or columns (2 * most_blocks + column) 0
  may-limit-held column h = get_or-list_of (blocks_in plan) (λ k. get_or columns (2 * most_blocks + k) 0) 0 column h

  module _ (drawn : Drawn columns plan) (n : ℕ) (inside : n < nodes_in plan) where
    pub node-listed : node_place n + 3 ≤ length plan
    node-listed = omega (arith, drawn.plan_long)

    pub node-leads : Leads (nodes_in plan) (node_in plan n).targets
    node-leads =
        arrows-lead (nodes_in plan) (node_in plan n).targets
        (λ t i. drawn.sound.arrows-in n t inside (subst (Among t) (sym (arrows-held n inside)) i))

    pub record-in : RecordIn (blocks_in plan) (node_in plan n).what
    record-in =
        go (node_in plan n).what (λ touch i. drawn.sound.columns_in n inside touch (subst (Among touch) (sym (touches-held n inside)) i))
      where
        go : (planned : Option ColumnTouches) → ((touch : ColumnTouch) → Among touch (touches_by planned) → touch.column < blocks_in plan) → RecordIn (blocks_in plan) planned
        go None each = tt
        go (Some reference) each =
            let lower : reference.lower < blocks_in plan = each (record { column = reference.lower; write = reference.write }) (inl refl) in
            (lower, upper_in (eqb reference.lower reference.upper) refl)
          where
            upper_in : (t : Bool) → eqb reference.lower reference.upper ≡ t → reference.upper < blocks_in plan
            upper_in true e = let same = eqb-true reference.lower reference.upper e in omega (arith, each (record { column = reference.lower; write = reference.write }) (inl refl))
            upper_in false e = each (record { column = reference.upper; write = reference.write }) (rw e (inr (inl refl)))

-- A reference that is of two of so many columns is of two of more.
pub record-fits : (count more : ℕ) → count ≤ more → (planned : Option ColumnTouches) → RecordIn count planned → RecordIn more planned
record-fits count more few None inside = tt
record-fits count more few (Some reference) inside = (omega (arith, inside.0), omega (arith, inside.1))

-- The head of a plan is there.
pub head-listed : (columns plan : List ℕ) → Drawn columns plan → 4 ≤ length plan
head-listed columns plan drawn = omega (arith, drawn.plan_long)
