-- Turns of the checker's loops, and what its tests on rows by value say of a plan's table.
use Prim.Native.Nat.{ℕ, ◌+◌, ◌*◌, ◌≤◌, ◌<◌}
use mathlib.Core.Bool.{Bool, ◌&&◌}
use mathlib.Core.List.{List}
use mathlib.Core.Path.{◌≡◌, sym, ap, subst, ◌∙◌}
use native.Mathlib.Omega.{arith}
use borrow.Author.Tests.{ne_eqb}
use lib.Dec.{leb, eqb}
use lib.ListN.{get_or}
use Rattle.lists.specs.Choice.{every, every_of}
use Rattle.lists.proofs.Asked.{every-both}
use Rattle.lists.proofs.Choice.{and_last, every-same}
use Rattle.lists.proofs.Joined.{row_in}
use Rattle.lists.proofs.Listed.{get_or-list_of}
use Rattle.lists.proofs.Loops.{every-turn}
use Rattle.chart.specs.Geometry.{most_blocks}
use Rattle.chart.specs.Record.{arrows_of}
use Rattle.cache.specs.Ages.{Ages, age_of, start_ages}
use Rattle.layout.specs.Rows.{row_at}
use Rattle.ages.specs.Plan.{Plan, columns_of, arrows_in, plan_flow}
use Rattle.plan.specs.Listed.{nodes_in, blocks_in, entry_in, empty_in, node_in, plan_in, Drawn}
use Rattle.plan.proofs.Holding.{arrows-held, must-limit-held, may-limit-held}
use Rattle.rows.specs.declared.Row.{Row}
use Rattle.rows.specs.Rows.{columns_by, ages_in, as_row}
use Rattle.tables.specs.Lent.{Lent, ages_at}
use Rattle.tables.specs.Inner.{Roomy, row_after, AgesAgree}
use Rattle.tables.proofs.After.{after-agrees, start-agrees}
use Rattle.checker.specs.Checker.{fits, zeroed, marked, row_ages, allows, ages_fit, entry_allows, node_passing}
use Rattle.checker.specs.Inner.{RowIn}
use Rattle.chart.specs.declared.records.Node.{Node}
use Rattle.plan.specs.declared.ColumnTouches.{ColumnTouches}

-- ---- turns

module _ (blocks : ℕ) (must may : List ℕ) (n k : ℕ) (h : k < blocks) where
  age-at : (buffer : List ℕ) → age_of (row_at blocks buffer n) k ≡ get_or buffer (n * blocks + k) 0
  age-at buffer = get_or-list_of blocks (λ column. get_or buffer (n * blocks + column) 0) 0 k h

  -- A turn that tests the ages in column k of row n.
  pub ages-turn : (test : ℕ → ℕ → ℕ → Bool) (c d : Bool) → c ≡ every k (λ column. test column (age_of (row_at blocks must n) column) (age_of (row_at blocks may n) column))
      → d ≡ (c && test k (get_or must (n * blocks + k) 0) (get_or may (n * blocks + k) 0))
      → d ≡ every (k + 1) (λ column. test column (age_of (row_at blocks must n) column) (age_of (row_at blocks may n) column))
  ages-turn test c d e q =
      every-turn k (λ column. test column (age_of (row_at blocks must n) column) (age_of (row_at blocks may n) column)) c d e
      (q ∙ (λ i. c && test k (sym (age-at must) i) (sym (age-at may) i)))

-- The ages of row n are 0 where those in each of its lists are.
pub row-zeroed : (blocks : ℕ) (must may : List ℕ) (n : ℕ)
    → (every blocks (λ column. eqb (get_or must (n * blocks + column) 0) 0) && every blocks (λ column. eqb (get_or may (n * blocks + column) 0) 0)) ≡ zeroed blocks (row_ages blocks must may n)
row-zeroed blocks must may n =
    every-both blocks _ _
    ∙ every-same blocks _ _ (λ k h. λ i. eqb (sym (age-at blocks must may n k h must) i) 0 && eqb (sym (age-at blocks must may n k h may) i) 0)

-- ---- room

-- Where there is room for so many rows, each of them is there.
pub row-there : (nodes count : ℕ) (lent : Lent) → count ≤ most_blocks → Roomy nodes count lent.must lent.may lent.marks → (t : ℕ) → t < nodes → RowIn count lent t
row-there nodes count lent few roomy t inside =
    let room = row_in t nodes count inside in
    record {
      few = few;
      must_in = omega (arith, roomy.must_room);
      may_in = omega (arith, roomy.may_room);
      mark_in = omega (arith, roomy.marks_room);
    }

-- ---- ages that agree

pub allows-agree : (count : ℕ) (a b : Ages) → AgesAgree count a b → (lent : Lent) (t : ℕ) → allows count lent a t ≡ allows count lent b t
allows-agree count a b agree lent t =
    ap (λ (near : Bool). marked lent t && near)
    (every-same count _ _ (λ j h. λ i. leb (agree.must j h i) (age_of (row_at count lent.must t) j) && leb (age_of (row_at count lent.may t) j) (agree.may j h i)))

module _ (columns plan : List ℕ) where
  -- The limits in the lists are the plan's.
  pub fits-held : (a : Ages) → fits (columns_by columns (blocks_in plan)) a ≡ fits (columns_of (plan_in columns plan)) a
  fits-held a =
      every-same (blocks_in plan) _ _
      (λ j h. λ i. leb (age_of a.must j) (sym (must-limit-held columns plan j h) i) && leb (age_of a.may j) (sym (may-limit-held columns plan j h) i))

-- The start's row tells whether the entry allows the start.
pub entry-begins : {columns plan : List ℕ} → Drawn columns plan → (lent : Lent) {blocks entry : ℕ} {empty : Bool} {row : Row}
    → blocks ≡ blocks_in plan → entry ≡ entry_in plan → empty ≡ empty_in plan → row ≡ as_row (start_ages (columns_by columns most_blocks) empty)
    → allows blocks lent (ages_in row) entry ≡ entry_allows (plan_in columns plan) lent
entry-begins {columns} {plan} drawn lent blocks_are entry_is empty-is start =
    (λ i. allows (blocks_are i) lent (ages_in (start i)) (entry_is i))
    ∙ (λ i. allows (blocks_in plan) lent (ages_in (as_row (start_ages (columns_by columns most_blocks) (empty-is i)))) (entry_in plan))
    ∙ allows-agree (blocks_in plan) _ _ (start-agrees columns plan drawn) lent (entry_in plan)

-- ---- a node, from what is told of its row and of its targets

module _ {columns plan : List ℕ} (drawn : Drawn columns plan) (lent : Lent) (n : ℕ) {blocks : ℕ} (is : blocks ≡ blocks_in plan) {fit : Bool}
    (fitting : fit ≡ fits (columns_by columns blocks) (row_ages blocks lent.must lent.may n)) where
  abbrev held : Plan
  held = plan_in columns plan

  fit-held : fit ≡ ages_fit held lent n
  fit-held =
      fitting
      ∙ (λ i. fits (columns_by columns (is i)) (row_ages (is i) lent.must lent.may n))
      ∙ fits-held columns plan (ages_at held lent n)

  pub unmarked-passing : get_or lent.marks n 0 ≡ 0 → {zero : Bool} → zero ≡ zeroed blocks (row_ages blocks lent.must lent.may n) → (fit && zero) ≡ node_passing held lent n
  unmarked-passing mark e =
      rw (mark, and_last) (λ i. fit-held i && (e ∙ (λ j. zeroed (is j) (row_ages (is j) lent.must lent.may n))) i)

  module _ (inside : n < nodes_in plan) (roomy : Roomy (nodes_in plan) (blocks_in plan) lent.must lent.may lent.marks)
      {node : Node ColumnTouches} (found : node ≡ node_in plan n) (row : Ages) (after : AgesAgree blocks row (row_after columns lent.must lent.may blocks n node.what)) where
    after-held : AgesAgree (blocks_in plan) row (row_after columns lent.must lent.may (blocks_in plan) n (node_in plan n).what)
    after-held =
        subst (λ (p : Node ColumnTouches). AgesAgree (blocks_in plan) row (row_after columns lent.must lent.may (blocks_in plan) n p.what)) found
        (subst (λ (b : ℕ). AgesAgree b row (row_after columns lent.must lent.may b n node.what)) is after)

    pub marked-passing : (get_or lent.marks n 0 ≡ 0 → ⊥) → {out : Bool} → out ≡ every_of (allows blocks lent row) (arrows_of node.targets)
        → (leb (get_or lent.marks n 0) 1 && (fit && out)) ≡ node_passing held lent n
    marked-passing mark {out} e =
        let agrees = after-agrees columns plan drawn n inside lent roomy.must_room roomy.may_room row after-held in
        let out-held : out ≡ every_of (allows (blocks_in plan) lent ((plan_flow held).step n (ages_at held lent n))) (arrows_in held n) =
        e
        ∙ (λ i. every_of (allows (is i) lent row) (arrows_of (found i).targets))
        ∙ (λ i. every_of (λ t. allows-agree (blocks_in plan) _ _ agrees lent t i) (sym (arrows-held columns plan n inside) i)) in
        rw (ne_eqb _ _ mark) (λ i. leb (get_or lent.marks n 0) 1 && (fit-held i && out-held i))
