-- What the totals answer for a table that passes: from the tests of the costs and bounds, as they are made, and the two sums to `totalled_by`.
use Rattle.std.specs.Prelude.{Err, None, Some}
use Prim.Native.Nat.{ℕ, ◌≤◌}
use mathlib.Core.Bool.{Bool, true, false, ◌&&◌}
use mathlib.Core.Path.{◌≡◌, sym, ap, ◌∙◌}
use native.Mathlib.Omega.{arith}
use borrow.Author.Tests.{eqb-true}
use lib.Dec.{ltb, eqb}
use lib.ListN.{length}
use Rattle.lists.specs.Choice.{first, found}
use Rattle.lists.proofs.Choice.{and-true, found-some, found-none}
use Rattle.refusals.specs.declared.Refusal.TheVariants.{BoundsLength, MissBelowHit, FloorAboveCeiling, FloorAtUnmarked}
use Rattle.ages.specs.Plan.{Plan}
use Rattle.costs.specs.Costs.{Figures, low_total, high_total}
use Rattle.tables.specs.Lent.{Lent, table_of}
use Rattle.totals.specs.Totals.{crossed_at, floor_at_unmarked, totalled_by, totals_between}

module _ (plan : Plan) (lent : Lent) (figures : Figures) (nodes : ℕ) (nodes_are : nodes ≡ plan.nodes) where
  -- The tests of rules 11.14 to 11.17.
  abbrev whole : ℕ → Bool
  whole n = eqb (length figures.floors) n && eqb (length figures.ceilings) n

  abbrev dear : Bool
  dear = ltb figures.costs.miss figures.costs.hit

  abbrev crossed : ℕ → ℕ
  crossed n = first n (crossed_at figures.floors figures.ceilings)

  abbrev unmarked : ℕ → ℕ
  unmarked n = first n (floor_at_unmarked lent.marks figures.floors)

  -- What a test says of so many nodes it says of the plan's.
  test-at-plan : {X : Type 0} (test : ℕ → X) (x : X) → test nodes ≡ x → test plan.nodes ≡ x
  test-at-plan test x e = sym (ap test nodes_are) ∙ e

  pub length-answer : whole nodes ≡ false → Err BoundsLength ≡ totalled_by plan lent figures
  unfolding totalled_by
  length-answer e = rw (test-at-plan whole false e)

  module _ (fit : whole nodes ≡ true) where
    pub fit-rooms : (nodes ≤ length figures.floors) × (nodes ≤ length figures.ceilings)
    fit-rooms =
        let long = and-true (eqb (length figures.floors) nodes) (eqb (length figures.ceilings) nodes) fit in
        (omega (arith, eqb-true (length figures.floors) nodes long.0), omega (arith, eqb-true (length figures.ceilings) nodes long.1))

    pub costs-answer : dear ≡ true → Err MissBelowHit ≡ totalled_by plan lent figures
    unfolding totalled_by
    costs-answer e = rw (test-at-plan whole true fit, e)

    module _ (cheap : dear ≡ false) where
      at-crossed : (t : Bool) → ltb (crossed nodes) nodes ≡ t → ltb (crossed plan.nodes) plan.nodes ≡ t
      at-crossed = test-at-plan (λ n. ltb (crossed n) n)

      pub crossed-answer : (node : ℕ) → found nodes (first nodes (crossed_at figures.floors figures.ceilings)) ≡ Some node → Err (FloorAboveCeiling node) ≡ totalled_by plan lent figures
      unfolding totalled_by
      crossed-answer node e =
          let is = found-some nodes (first nodes (crossed_at figures.floors figures.ceilings)) node e in
          rw (test-at-plan whole true fit, cheap, at-crossed true is.0) (ap (λ (k : ℕ). Err (FloorAboveCeiling k)) (sym is.1 ∙ ap crossed nodes_are))

      module _ (uncrossed : found nodes (first nodes (crossed_at figures.floors figures.ceilings)) ≡ None) where
        none-crossed : ltb (crossed plan.nodes) plan.nodes ≡ false
        none-crossed = at-crossed false (found-none nodes (first nodes (crossed_at figures.floors figures.ceilings)) uncrossed)

        at-unmarked : (t : Bool) → ltb (unmarked nodes) nodes ≡ t → ltb (unmarked plan.nodes) plan.nodes ≡ t
        at-unmarked = test-at-plan (λ n. ltb (unmarked n) n)

        pub unmarked-answer : (node : ℕ) → found nodes (first nodes (floor_at_unmarked lent.marks figures.floors)) ≡ Some node → Err (FloorAtUnmarked node) ≡ totalled_by plan lent figures
        unfolding totalled_by
        unmarked-answer node e =
            let is = found-some nodes (first nodes (floor_at_unmarked lent.marks figures.floors)) node e in
            rw (test-at-plan whole true fit, cheap, none-crossed, at-unmarked true is.0)
            (ap (λ (k : ℕ). Err (FloorAtUnmarked k)) (sym is.1 ∙ ap unmarked nodes_are))

        pub sums-answer : found nodes (first nodes (floor_at_unmarked lent.marks figures.floors)) ≡ None → (low high : ℕ) → low ≡ low_total plan (table_of plan lent) figures → high ≡ high_total plan (table_of plan lent) figures
            → totals_between low high ≡ totalled_by plan lent figures
        unfolding totalled_by
        sums-answer e low high l h =
            rw (test-at-plan whole true fit, cheap, none-crossed, at-unmarked false (found-none nodes (first nodes (floor_at_unmarked lent.marks figures.floors)) e)) (λ i. totals_between (l i) (h i))
