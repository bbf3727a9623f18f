-- The test of one block's table and the statement that it passes agree.
use Prim.Native.Nat.{ℕ, ◌≤◌, ◌<◌}
use mathlib.Core.Bool.{Bool, true, false, not, ◌&&◌, ◌||◌, true≢false}
use mathlib.Core.List.{List, [], ◌∷◌}
use mathlib.Core.Logic.{inl, inr, ⊎_elim}
use mathlib.Core.Path.{◌≡◌, refl, sym, ap, subst}
use native.Mathlib.Omega.{arith}
use borrow.Author.Tests.{eqb-true, eq-eqb, not-true}
use lib.Dec.{eqb}
use lib.ListN.{length, get_or-eq_default}
use Rattle.lists.specs.Choice.{every}
use Rattle.lists.specs.Lists.{Among}
use Rattle.lists.proofs.Choice.{and-true, true-and, every-all, all-every}
use Rattle.lists.proofs.Orders.{below_or}
use Rattle.flow.specs.Flow.{Cell, blank, holds, cell_at}
use Rattle.flow.specs.Passing.{CellBelow, CellOk, leaving, Passing}
use Rattle.ages.specs.Plan.{Plan, arrows_in}
use Rattle.kept.specs.Since.{Since, is_in, untouched, SinceFits, SinceLess}
use Rattle.kept.specs.Kept.{kept_flow}
use Rattle.kept.specs.Checked.{fits_by, less_by, cell_fits, cell_less, all_less, sent_by, node_keeps, block_passing}

-- ---- one flag

implied : (a b : Bool) → (not a || b) ≡ true → a ≡ true → b ≡ true
implied true b e q = e
implied false b e q = absurd (true≢false (sym q))

implies : (a b : Bool) → (a ≡ true → b ≡ true) → (not a || b) ≡ true
implies true b h = h refl
implies false b h = refl

not-not : (a : Bool) → a ≡ false → not a ≡ true
not-not a e = ap not e

module _ (plan : Plan) (block : ℕ) where
  abbrev count : ℕ
  count = plan.blocks

  -- ---- one state

  test_fits : (a : Since) → fits_by count block a ≡ true → SinceFits count block a
  test_fits a e =
      let both = and-true (eqb (length a.others) count) (not (is_in a.others block)) e in
      record { long = eqb-true (length a.others) count both.0; own = not-true (is_in a.others block) both.1 }

  fits-test : (a : Since) → SinceFits count block a → fits_by count block a ≡ true
  fits-test a f =
      true-and (eqb (length a.others) count) (not (is_in a.others block)) (eq-eqb (length a.others) count f.long) (not-not (is_in a.others block) f.own)

  test-less : (a b : Since) → less_by count a b ≡ true → SinceLess count a b
  test-less a b e =
      let both = and-true (not a.touched || b.touched) (every count (λ column. not (is_in a.others column) || is_in b.others column)) e in
      record {
        touched = implied a.touched b.touched both.0;
        others = λ column h. implied (is_in a.others column) (is_in b.others column) (every-all count (λ k. not (is_in a.others k) || is_in b.others k) both.1 column h);
      }

  less-test : (a b : Since) → SinceLess count a b → less_by count a b ≡ true
  less-test a b s =
      true-and (not a.touched || b.touched) (every count (λ column. not (is_in a.others column) || is_in b.others column)) (implies a.touched b.touched s.touched)
      (all-every count (λ k. not (is_in a.others k) || is_in b.others k) (λ k h. implies (is_in a.others k) (is_in b.others k) (s.others k h)))

  -- ---- one cell

  test-ok : (c : Cell Since) → cell_fits count block c ≡ true → CellOk (kept_flow plan block) c
  test-ok blank e = tt
  test-ok (holds a) e = test_fits a e

  ok-test : (c : Cell Since) → CellOk (kept_flow plan block) c → cell_fits count block c ≡ true
  ok-test blank o = refl
  ok-test (holds a) o = fits-test a o

  test_below : (c d : Cell Since) → cell_less count c d ≡ true → CellBelow (kept_flow plan block) c d
  test_below blank d e = tt
  test_below (holds a) blank e = true≢false (sym e)
  test_below (holds a) (holds b) e = test-less a b e

  below-test : (c d : Cell Since) → CellBelow (kept_flow plan block) c d → cell_less count c d ≡ true
  below-test blank d h = refl
  below-test (holds a) blank h = absurd h
  below-test (holds a) (holds b) h = less-test a b h

  sent_is : (n : ℕ) (c : Cell Since) → sent_by plan block n c ≡ leaving (kept_flow plan block) n c
  sent_is n blank = refl
  sent_is n (holds a) = refl

  -- ---- the targets of a node

  all-below : (out : Cell Since) (table : List (Cell Since)) (ts : List ℕ) → all_less count out table ts ≡ true → (t : ℕ) → Among t ts → CellBelow (kept_flow plan block) out (cell_at table t)
  all-below out table [] e t i = absurd i
  all-below out table (u ∷ ts) e t i = go i (all-below out table ts)
    where
      both : (cell_less count out (cell_at table u) ≡ true) × (all_less count out table ts ≡ true)
      both = and-true (cell_less count out (cell_at table u)) (all_less count out table ts) e

      go : Among t (u ∷ ts) → (all_less count out table ts ≡ true → (t : ℕ) → Among t ts → CellBelow (kept_flow plan block) out (cell_at table t)) → CellBelow (kept_flow plan block) out (cell_at table t)
      go (inl q) rest = subst (λ (k : ℕ). CellBelow (kept_flow plan block) out (cell_at table k)) (sym q) (test_below out (cell_at table u) both.0)
      go (inr j) rest = rest both.1 t j

  below_all : (out : Cell Since) (table : List (Cell Since)) (ts : List ℕ) → ((t : ℕ) → Among t ts → CellBelow (kept_flow plan block) out (cell_at table t)) → all_less count out table ts ≡ true
  below_all out table [] h = refl
  below_all out table (u ∷ ts) h =
      true-and (cell_less count out (cell_at table u)) (all_less count out table ts) (below-test out (cell_at table u) (h u (inl refl))) (below_all out table ts (λ t i. h t (inr i)))

  -- ---- the table

  module _ (table : List (Cell Since)) where
    -- Past the last node there is nothing.
    past : length table ≡ plan.nodes → (n : ℕ) → plan.nodes ≤ n → cell_at table n ≡ blank
    past long n h = get_or-eq_default table blank (omega arith)

    pub test-passing : block_passing plan block table ≡ true → Passing (kept_flow plan block) table
    test-passing e =
        let one = and-true (eqb (length table) plan.nodes) (cell_less count (holds (untouched count)) (cell_at table plan.entry) && every plan.nodes (node_keeps plan block table)) e in
        let two = and-true (cell_less count (holds (untouched count)) (cell_at table plan.entry)) (every plan.nodes (node_keeps plan block table)) one.1 in
        let long = eqb-true (length table) plan.nodes one.0 in
        let at : (n : ℕ) → n < plan.nodes → node_keeps plan block table n ≡ true = every-all plan.nodes (node_keeps plan block table) two.1 in
        record {
          long = long;
          fine = λ n. ⊎_elim
              (λ (h : n < plan.nodes). test-ok (cell_at table n) (parts n (at n h)).0)
              (λ (h : plan.nodes ≤ n). subst (CellOk (kept_flow plan block)) (sym (past long n h)) tt)
              (below_or n plan.nodes);
          begun = test_below (holds (untouched count)) (cell_at table plan.entry) two.0;
          closed = λ n t i. ⊎_elim
              (λ (h : n < plan.nodes). subst (λ (c : Cell Since). CellBelow (kept_flow plan block) c (cell_at table t)) (sent_is n (cell_at table n)) (all-below (sent_by plan block n (cell_at table n)) table (arrows_in plan n) (parts n (at n h)).1 t i))
              (λ (h : plan.nodes ≤ n). subst (λ (c : Cell Since). CellBelow (kept_flow plan block) (leaving (kept_flow plan block) n c) (cell_at table t)) (sym (past long n h)) tt)
              (below_or n plan.nodes);
        }
      where
        parts : (n : ℕ) → node_keeps plan block table n ≡ true → (cell_fits count block (cell_at table n) ≡ true) × (all_less count (sent_by plan block n (cell_at table n)) table (arrows_in plan n) ≡ true)
        parts n = and-true (cell_fits count block (cell_at table n)) (all_less count (sent_by plan block n (cell_at table n)) table (arrows_in plan n))

    pub passing-test : Passing (kept_flow plan block) table → block_passing plan block table ≡ true
    passing-test p =
        true-and (eqb (length table) plan.nodes) (cell_less count (holds (untouched count)) (cell_at table plan.entry) && every plan.nodes (node_keeps plan block table)) (eq-eqb (length table) plan.nodes p.long)
        (true-and (cell_less count (holds (untouched count)) (cell_at table plan.entry)) (every plan.nodes (node_keeps plan block table)) (below-test (holds (untouched count)) (cell_at table plan.entry) p.begun)
        (all-every plan.nodes (node_keeps plan block table) (λ n h.
        true-and (cell_fits count block (cell_at table n)) (all_less count (sent_by plan block n (cell_at table n)) table (arrows_in plan n)) (ok-test (cell_at table n) (p.fine n))
        (below_all (sent_by plan block n (cell_at table n)) table (arrows_in plan n) (λ t i. subst (λ (c : Cell Since). CellBelow (kept_flow plan block) c (cell_at table t)) (sym (sent_is n (cell_at table n))) (p.closed n t i))))))
