-- The checker's tests decide whether a lent table passes.
use Prim.Native.Nat.{ℕ, ◌≤◌, ◌<◌}
use mathlib.Core.Bool.{Bool, true, false, not, ◌&&◌}
use mathlib.Core.List.{List}
use mathlib.Core.Logic.{⊎_elim}
use mathlib.Core.Path.{◌≡◌, refl, sym, ap, ◌∙◌, subst}
use native.Mathlib.Omega.{arith}
use borrow.Author.Tests.{leb-true, le-leb, eqb-true, eq-eqb, not-true, not-false}
use lib.Dec.{leb, eqb}
use lib.ListN.{length, get_or, replicate, length-replicate, get_or-replicate}
use lib.Seq.{ext_get_or}
use Rattle.lists.specs.Lists.{Among}
use Rattle.lists.specs.Choice.{every, every_of}
use Rattle.lists.proofs.Choice.{and-true, true-and, or-true, true-or, every-all, all-every, every_of-all, all-every_of}
use Rattle.lists.proofs.Listed.{length-list_of}
use Rattle.lists.proofs.Orders.{below_or}
use Rattle.cache.specs.Ages.{Columns, Ages, age_of, Within, Tighter}
use Rattle.flow.specs.Flow.{Cell, blank, holds, cell_at}
use Rattle.flow.specs.Passing.{CellBelow, CellOk, leaving, Passing}
use Rattle.ages.specs.Plan.{Plan, columns_of, arrows_in, plan_flow, Sound}
use Rattle.tables.specs.Lent.{Lent, ages_at, table_of, table_short, TablePasses}
use Rattle.tables.proofs.Laid.{table_of-fits, table_of-at, table_of-past, long-enough, not_short}
use Rattle.checker.specs.Checker.{fits, zeroed, covers, marked, allows, mark_plain, ages_fit, unmarked_zero, entry_allows, arrows_allow, node_passing, passing}

-- ---- tests

-- Two tests of each number below n.
every-both : (n : ℕ) (one other : ℕ → Bool) → every n (λ k. one k && other k) ≡ true → (k : ℕ) → k < n → (one k ≡ true) × (other k ≡ true)
every-both n one other e k h = and-true (one k) (other k) (every-all n (λ k. one k && other k) e k h)

both-every : (n : ℕ) (one other : ℕ → Bool) → ((k : ℕ) → k < n → one k ≡ true) → ((k : ℕ) → k < n → other k ≡ true) → every n (λ k. one k && other k) ≡ true
both-every n one other g h = all-every n (λ k. one k && other k) (λ k i. true-and (one k) (other k) (g k i) (h k i))

every-most : (n : ℕ) (p q r s : ℕ → ℕ) → every n (λ k. leb (p k) (q k) && leb (r k) (s k)) ≡ true → (k : ℕ) → k < n → (p k ≤ q k) × (r k ≤ s k)
every-most n p q r s e k h =
    let both = every-both n (λ k. leb (p k) (q k)) (λ k. leb (r k) (s k)) e k h in
    (leb-true (p k) (q k) both.0, leb-true (r k) (s k) both.1)

most-every : (n : ℕ) (p q r s : ℕ → ℕ) → ((k : ℕ) → k < n → p k ≤ q k) → ((k : ℕ) → k < n → r k ≤ s k) → every n (λ k. leb (p k) (q k) && leb (r k) (s k)) ≡ true
most-every n p q r s g h =
    both-every n (λ k. leb (p k) (q k)) (λ k. leb (r k) (s k)) (λ k i. le-leb (p k) (q k) (g k i)) (λ k i. le-leb (r k) (s k) (h k i))

-- ---- rows of zeros

zero_row : (row : List ℕ) (count : ℕ) → length row ≡ count → ((k : ℕ) → k < count → get_or row k 0 ≡ 0) → row ≡ replicate count 0
zero_row row count e h =
    ext_get_or 0 row (replicate count 0) (e ∙ sym (length-replicate count 0))
    (λ k i. let inside : k < count = omega arith in h k inside ∙ sym (get_or-replicate count k 0 0 inside))

-- ---- the ages of one row

module _ (columns : Columns) where
  covers-tighter : (a b : Ages) → covers columns.count a b ≡ true → Tighter columns a b
  covers-tighter a b e =
      let most = every-most columns.count (age_of a.must) (age_of b.must) (age_of b.may) (age_of a.may) e in
      record { must-less = λ column h. (most column h).0; may_more = λ column h. (most column h).1 }

  tighter-covers : (a b : Ages) → Tighter columns a b → covers columns.count a b ≡ true
  tighter-covers a b t =
      most-every columns.count (age_of a.must) (age_of b.must) (age_of b.may) (age_of a.may) t.must-less t.may_more

  within-fits : (a : Ages) → Within columns a → fits columns a ≡ true
  within-fits a w =
      most-every columns.count (age_of a.must) columns.must_limit (age_of a.may) columns.may_limit w.must-most w.may-most

  fits-within : (a : Ages) → length a.must ≡ columns.count → length a.may ≡ columns.count → fits columns a ≡ true → Within columns a
  fits-within a must may e =
      let most = every-most columns.count (age_of a.must) columns.must_limit (age_of a.may) columns.may_limit e in
      record { must_long = must; may_long = may; must-most = λ column h. (most column h).0; may-most = λ column h. (most column h).1 }

module _ (count : ℕ) where
  abbrev zeros : Ages
  zeros = record { must = replicate count 0; may = replicate count 0 }

  zeroed-zeros : (a : Ages) → length a.must ≡ count → length a.may ≡ count → zeroed count a ≡ true → a ≡ zeros
  zeroed-zeros a must may e =
      let both = every-both count (λ k. eqb (age_of a.must k) 0) (λ k. eqb (age_of a.may k) 0) e in
      λ i. record {
        must = zero_row a.must count must (λ k h. eqb-true (age_of a.must k) 0 (both k h).0) i;
        may = zero_row a.may count may (λ k h. eqb-true (age_of a.may k) 0 (both k h).1) i;
      }

  zeros-zeroed : zeroed count zeros ≡ true
  zeros-zeroed = both-every count (λ k. eqb (age_of zeros.must k) 0) (λ k. eqb (age_of zeros.may k) 0) zero zero
    where
      zero : (k : ℕ) → k < count → eqb (age_of (replicate count 0) k) 0 ≡ true
      zero k h = eq-eqb (age_of (replicate count 0) k) 0 (get_or-replicate count k 0 0 h)

zeros-fit : (columns : Columns) → fits columns (zeros columns.count) ≡ true
zeros-fit columns =
    most-every columns.count _ columns.must_limit _ columns.may_limit (least columns.must_limit) (least columns.may_limit)
  where
    least : (limit : ℕ → ℕ) (k : ℕ) → k < columns.count → age_of (replicate columns.count 0) k ≤ limit k
    least limit k h = omega (arith, get_or-replicate {A = ℕ} columns.count k 0 0 h)

-- ---- cells

module _ (plan : Plan) (lent : Lent) where
  abbrev table : List (Cell Ages)
  table = table_of plan lent

  marked-holds : (n : ℕ) → n < plan.nodes → marked lent n ≡ true → cell_at table n ≡ holds (ages_at plan lent n)
  marked-holds n h e = table_of-at plan lent n h ∙ (rw (not-true (eqb (get_or lent.marks n 0) 0) e))

  unmarked-blank : (n : ℕ) → marked lent n ≡ false → cell_at table n ≡ blank
  unmarked-blank n e =
      ⊎_elim (λ h. table_of-at plan lent n h ∙ (rw (not-false (eqb (get_or lent.marks n 0) 0) e))) (λ h. table_of-past plan lent n h) (below_or n plan.nodes)

  -- A property of every cell: of blank ones, and of the rows of marked nodes.
  cells : (Q : ℕ → Cell Ages → Type 0) → ((n : ℕ) → Q n blank) → ((n : ℕ) → n < plan.nodes → marked lent n ≡ true → Q n (holds (ages_at plan lent n)))
      → (n : ℕ) → Q n (cell_at table n)
  cells Q none some n =
      ⊎_elim (λ h. inside h (marked lent n) refl) (λ h. subst (Q n) (sym (table_of-past plan lent n h)) (none n)) (below_or n plan.nodes)
    where
      inside : n < plan.nodes → (m : Bool) → marked lent n ≡ m → Q n (cell_at table n)
      inside h false e = subst (Q n) (sym (unmarked-blank n e)) (none n)
      inside h true e = subst (Q n) (sym (marked-holds n h e)) (some n h e)

  allows-below : (a : Ages) (t : ℕ) → t < plan.nodes → allows plan.blocks lent a t ≡ true → CellBelow (plan_flow plan) (holds a) (cell_at table t)
  allows-below a t h e =
      let both = and-true (marked lent t) (covers plan.blocks a (ages_at plan lent t)) e in
      subst (CellBelow (plan_flow plan) (holds a)) (sym (marked-holds t h both.0)) (covers-tighter (columns_of plan) a (ages_at plan lent t) both.1)

  below-allows : (a : Ages) (t : ℕ) → CellBelow (plan_flow plan) (holds a) (cell_at table t) → allows plan.blocks lent a t ≡ true
  below-allows a t b =
      cells (λ t c. CellBelow (plan_flow plan) (holds a) c → allows plan.blocks lent a t ≡ true) (λ t b. absurd b)
      (λ t h e b. true-and (marked lent t) (covers plan.blocks a (ages_at plan lent t)) e (tighter-covers (columns_of plan) a (ages_at plan lent t) b))
      t
      b

-- ---- from the tests to the equations

-- What the tests of one node say.
record NodeTests (plan : Plan) (lent : Lent) (n : ℕ) : Type 0 where
  plain : mark_plain plan lent n ≡ true
  fit : ages_fit plan lent n ≡ true
  zero : unmarked_zero plan lent n ≡ true
  out : arrows_allow plan lent n ≡ true

module _ (plan : Plan) (lent : Lent) (sound : Sound plan) where
  abbrev stepped : ℕ → Ages
  stepped n = (plan_flow plan).step n (ages_at plan lent n)

  node-tests : every plan.nodes (node_passing plan lent) ≡ true → (n : ℕ) → n < plan.nodes → NodeTests plan lent n
  node-tests e n h =
      let one = and-true (mark_plain plan lent n) _ (every-all plan.nodes (node_passing plan lent) e n h) in
      let two = and-true (ages_fit plan lent n) _ one.1 in
      let three = and-true (unmarked_zero plan lent n) _ two.1 in
      record { plain = one.0; fit = two.0; zero = three.0; out = three.1 }

  module _ (begins : entry_allows plan lent ≡ true) (tests : (n : ℕ) → n < plan.nodes → NodeTests plan lent n) where
    arrow-below : (n t : ℕ) → n < plan.nodes → marked lent n ≡ true → Among t (arrows_in plan n) → CellBelow (plan_flow plan) (holds (stepped n)) (cell_at (table_of plan lent) t)
    arrow-below n t h e i =
        let all = or-true (not (marked lent n)) (every_of (allows plan.blocks lent (stepped n)) (arrows_in plan n)) (tests n h).out (ap not e) in
        allows-below plan lent (stepped n) t (sound.arrows-in n t h i) (every_of-all _ (arrows_in plan n) all t i)

    tests-equations : Passing (plan_flow plan) (table_of plan lent)
    tests-equations =
        record {
          long = (table_of-fits plan lent).long;
          fine = cells plan lent (λ n c. CellOk (plan_flow plan) c) (λ n. tt) (λ n h e. fits-within (columns_of plan) (ages_at plan lent n) (length-list_of plan.blocks _) (length-list_of plan.blocks _) (tests n h).fit);
          begun = allows-below plan lent (plan_flow plan).start plan.entry sound.entry_inside begins;
          closed = λ n t i.
              cells plan lent (λ n c. Among t (arrows_in plan n) → CellBelow (plan_flow plan) (leaving (plan_flow plan) n c) (cell_at (table_of plan lent) t)) (λ n i. tt)
              (λ n h e i. arrow-below n t h e i)
              n
              i;
        }

    unmarked-row : (n : ℕ) → n < plan.nodes → get_or lent.marks n 0 ≡ 0 → ages_at plan lent n ≡ zeros plan.blocks
    unmarked-row n h z =
        zeroed-zeros plan.blocks (ages_at plan lent n) (length-list_of plan.blocks _) (length-list_of plan.blocks _)
        (or-true (marked lent n) _ (tests n h).zero (ap not (eq-eqb (get_or lent.marks n 0) 0 z)))

  -- A table that is long enough and passes the tests passes.
  pub passing-yes : table_short plan lent ≡ false → passing plan lent ≡ true → TablePasses plan lent
  unfolding passing
  passing-yes short e =
      let long = long-enough plan lent short in
      let both = and-true (entry_allows plan lent) _ e in
      let tests = node-tests both.1 in
      record {
        must_long = long.0;
        may_long = long.1.0;
        marks_long = long.1.1;
        marks_plain = λ n h. leb-true (get_or lent.marks n 0) 1 (tests n h).plain;
        unmarked-zero = unmarked-row both.0 tests;
        equations = tests-equations both.0 tests;
      }

-- ---- from the equations to the tests

module _ (plan : Plan) (lent : Lent) (p : TablePasses plan lent) where
  unmarked-zeros : (n : ℕ) → n < plan.nodes → marked lent n ≡ false → ages_at plan lent n ≡ zeros plan.blocks
  unmarked-zeros n h e = p.unmarked-zero n h (eqb-true (get_or lent.marks n 0) 0 (not-false _ e))

  row_fits : (n : ℕ) → n < plan.nodes → ages_fit plan lent n ≡ true
  row_fits n h = go (marked lent n) refl
    where
      go : (m : Bool) → marked lent n ≡ m → ages_fit plan lent n ≡ true
      go false e = ap (fits (columns_of plan)) (unmarked-zeros n h e) ∙ zeros-fit (columns_of plan)
      go true e = within-fits (columns_of plan) (ages_at plan lent n) (subst (CellOk (plan_flow plan)) (marked-holds plan lent n h e) (p.equations.fine n))

  row-lets : (n : ℕ) → n < plan.nodes → marked lent n ≡ true → (t : ℕ) → Among t (arrows_in plan n)
      → allows plan.blocks lent ((plan_flow plan).step n (ages_at plan lent n)) t ≡ true
  row-lets n h e t i =
      below-allows plan lent ((plan_flow plan).step n (ages_at plan lent n)) t
      (subst (λ (c : Cell Ages). CellBelow (plan_flow plan) (leaving (plan_flow plan) n c) (cell_at (table_of plan lent) t)) (marked-holds plan lent n h e) (p.equations.closed n t i))

  node-passing : (n : ℕ) → n < plan.nodes → node_passing plan lent n ≡ true
  node-passing n h =
      true-and (mark_plain plan lent n) _ (le-leb (get_or lent.marks n 0) 1 (p.marks_plain n h))
      (true-and (ages_fit plan lent n) _ (row_fits n h)
      (true-and (unmarked_zero plan lent n) _ (true-or (marked lent n) _ (λ e. ap (zeroed plan.blocks) (unmarked-zeros n h e) ∙ zeros-zeroed plan.blocks))
      (true-or (not (marked lent n)) _ (λ e. all-every_of _ (arrows_in plan n) (row-lets n h (not-false (marked lent n) e))))))

  -- A table that passes is long enough and passes the tests.
  pub yes-long : table_short plan lent ≡ false
  yes-long = not_short plan lent p.must_long p.may_long p.marks_long

  pub yes-passing : passing plan lent ≡ true
  unfolding passing
  yes-passing =
      true-and (entry_allows plan lent) _ (below-allows plan lent (plan_flow plan).start plan.entry p.equations.begun)
      (all-every plan.nodes (node_passing plan lent) node-passing)
