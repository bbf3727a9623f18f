-- What is answered for a table that passes, and for any bytes: from the tests as they are made, and the bound, to `bounded_by` and `bounded`. And the tests of
-- lengths, which multiply nothing.
use Rattle.std.specs.Prelude.{Err, Ok}
use Prim.Native.Nat.{ℕ, ◌*◌, ◌/◌, ◌%◌, ◌<◌}
use mathlib.Core.Bool.{Bool, true, false, ◌&&◌}
use mathlib.Core.List.{List}
use mathlib.Core.Path.{◌≡◌, sym, ap, ◌∙◌}
use native.Mathlib.Nat.{div-add-mod', div-eq_of_eq-mul_left}
use native.Mathlib.Omega.{arith}
use borrow.Author.Tests.{eqb-true, eq-eqb}
use lib.Dec.{eqb, ltb}
use Rattle.lists.proofs.Choice.{and-true, true-and, same_tests}
use Rattle.refusals.specs.declared.Refusal.{Refusal}
use Rattle.refusals.specs.declared.Refusal.TheVariants.{NotPassing, MissBelowHit, FactsLength, NumberOutOfRange, CertificateFails}
use Rattle.chart.specs.Chart.{Chart, accepted, read_chart}
use Rattle.facts.specs.Certificate.{in_range, lengths_fit}
use Rattle.ages.specs.Plan.{Plan}
use Rattle.plan.specs.Listed.{plan_in}
use Rattle.drawing.specs.Drawing.{Draws}
use Rattle.tables.specs.Lent.{Lent}
use Rattle.checker.specs.Checker.{checked_by}
use Rattle.checker.proofs.Tabled.{short-answered, no-answered, yes-answered}
use Rattle.certificate.specs.Bound.{Question, side_bound, bound_of, failing_at, question_cases, bounded_by, bounded}
use Rattle.certificate.specs.Inner.{certified_by}

-- ---- lengths

module _ (long count nodes : ℕ) (some : 0 < nodes) where
  whole-only : (eqb (long / nodes) count && eqb (long % nodes) 0) ≡ true → eqb long (count * nodes) ≡ true
  whole-only e =
      let both = and-true (eqb (long / nodes) count) (eqb (long % nodes) 0) e in
      let rows = ap (λ (k : ℕ). k * nodes) (eqb-true (long / nodes) count both.0) in
      eq-eqb long (count * nodes) (omega (arith, div-add-mod' long nodes, rows, eqb-true (long % nodes) 0 both.1))

  only-whole : eqb long (count * nodes) ≡ true → (eqb (long / nodes) count && eqb (long % nodes) 0) ≡ true
  only-whole e =
      let is = eqb-true long (count * nodes) e in
      let quotient : long / nodes ≡ count = div-eq_of_eq-mul_left some is in
      let rows = ap (λ (k : ℕ). k * nodes) quotient in
      true-and (eqb (long / nodes) count) (eqb (long % nodes) 0) (eq-eqb (long / nodes) count quotient) (eq-eqb (long % nodes) 0 (omega (arith, div-add-mod' long nodes, rows, is)))

  pub rows_whole : (eqb (long / nodes) count && eqb (long % nodes) 0) ≡ eqb long (count * nodes)
  rows_whole = same_tests (eqb (long / nodes) count && eqb (long % nodes) 0) (eqb long (count * nodes)) whole-only only-whole

-- ---- a table that passes

module _ (plan : Plan) (lent : Lent) (question : Question) (nodes : ℕ) (nodes_are : nodes ≡ plan.nodes) where
  -- Where lists and numbers fit.
  module _ (here : ℕ) (is : here ≡ failing_at plan lent question) where
    at-plan : (t : Bool) → ltb here nodes ≡ t → ltb (failing_at plan lent question) plan.nodes ≡ t
    at-plan t e = sym (λ i. ltb (is i) (nodes_are i)) ∙ e

    pub fails-answer : ltb here nodes ≡ true → Err (CertificateFails here) ≡ certified_by plan lent question
    fails-answer e = rw (at-plan true e) (ap (λ (k : ℕ). Err (CertificateFails k)) is)

    pub bound-answer : ltb here nodes ≡ false → (bound : ℕ) → bound ≡ side_bound question.side plan lent question → Ok bound ≡ certified_by plan lent question
    bound-answer e bound b = rw (at-plan false e) (ap Ok b)

  abbrev dear : Bool
  dear = ltb question.costs.miss question.costs.hit

  abbrev long : ℕ → Bool
  long n = lengths_fit n question.facts question.certificate

  abbrev small : Bool
  small = in_range question.facts question.certificate

  at_long : (t : Bool) → long nodes ≡ t → long plan.nodes ≡ t
  at_long t e = sym (ap long nodes_are) ∙ e

  pub costs-answer : dear ≡ true → Err MissBelowHit ≡ bounded_by plan lent question
  unfolding bounded_by
  costs-answer e = rw e

  pub length-answer : dear ≡ false → long nodes ≡ false → Err FactsLength ≡ bounded_by plan lent question
  unfolding bounded_by
  length-answer cheap e = rw (cheap, at_long false e)

  pub range-answer : dear ≡ false → long nodes ≡ true → small ≡ false → Err NumberOutOfRange ≡ bounded_by plan lent question
  unfolding bounded_by
  range-answer cheap fit e = rw (cheap, at_long true fit, e)

  pub certified-answer : dear ≡ false → long nodes ≡ true → small ≡ true → certified_by plan lent question ≡ bounded_by plan lent question
  unfolding bounded_by
  certified-answer cheap fit e = rw (cheap, at_long true fit, e)

-- ---- any bytes

module _ {bytes columns plan : List ℕ} {chart : Chart} (draws : Draws bytes columns plan) (read : read_chart bytes ≡ accepted chart) (lent : Lent) (question : Question) where
  abbrev held : Plan
  held = plan_in columns plan

  pub short-bound : (refusal : Refusal) → Err refusal ≡ checked_by held lent → Err refusal ≡ bounded bytes lent question
  unfolding bounded
  short-bound refusal e = rw read (short-answered draws read lent Err (λ p. question_cases p lent question) (λ p. bound_of p lent question) refusal e)

  pub no_bound : (Ok false) ≡ checked_by held lent → Err NotPassing ≡ bounded bytes lent question
  unfolding bounded
  no_bound e = rw read (no-answered draws read lent Err (λ p. question_cases p lent question) (λ p. bound_of p lent question) e)

  pub yes-bound : (Ok true) ≡ checked_by held lent → bounded_by held lent question ≡ bounded bytes lent question
  unfolding bounded bounded_by
  yes-bound e = rw read (yes-answered draws read lent Err (λ p. question_cases p lent question) (λ p. bound_of p lent question) e)
