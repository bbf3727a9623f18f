-- The tests of a certificate's lengths and numbers, and of where it holds, tell what they are to tell.
use Prim.Native.Nat.{ℕ, suc, ◌+◌, ◌*◌, ◌≤◌, ◌<◌}
use mathlib.Core.Bool.{Bool, true, ◌&&◌, true≢false}
use mathlib.Core.List.{List}
use mathlib.Core.Path.{◌≡◌, refl, sym, ap, subst, ◌∙◌}
use native.Mathlib.Omega.{arith}
use borrow.Author.Tests.{eqb-true, eq-eqb, leb-true, le-leb, ltb-true, lt-ltb}
use lib.Dec.{eqb, leb, ltb}
use lib.IntN.{ℤ, pos, negsuc, nat_abs}
use lib.ListN.{get_or, length}
use Rattle.lists.specs.Choice.{every, every_of}
use Rattle.lists.specs.Lists.{Among}
use Rattle.lists.specs.Telling.{Tells}
use Rattle.lists.proofs.Choice.{and-true, true-and, every-all, all-every, every_of-all, all-every_of}
use Rattle.lists.proofs.Telling.{tells-eqb, tells-leb, tells-not, tells-and, tells-if, holds-true}
use Rattle.chart.specs.Chart.{Chart, arrows}
use Rattle.facts.specs.Parts.{above, below}
use Rattle.facts.specs.Facts.{Facts, fact_count}
use Rattle.facts.specs.Certificate.{Certificate, Claim, rise, fall, potential, arrow_holds, holds_at}
use Rattle.facts.specs.Certificate.{most_denominator, most_multipliers, most_coefficient, most_potential, all_within, multipliers_fit, in_range, lengths_fit}
use Rattle.ages.specs.Charted.{plan_of}
use Rattle.ages.proofs.Charting.{arrows-planned}
use Rattle.tables.specs.Lent.{Lent}
use Rattle.certificate.specs.Bound.{Question, claim_of}
use Rattle.demands.specs.Bounding.{LengthsFit, NumbersFit, HoldsAt}

-- ---- lengths

module _ (nodes : ℕ) (facts : Facts) (certificate : Certificate) where
  pub lengths-only : lengths_fit nodes facts certificate ≡ true → LengthsFit nodes facts certificate
  lengths-only e =
      let both = and-true (eqb (length facts.coefficients) (fact_count facts * nodes)) _ e in
      let rest = and-true (eqb (length certificate.multipliers) (fact_count facts)) _ both.1 in
      record {
        coefficients = eqb-true _ _ both.0;
        multipliers = eqb-true _ _ rest.0;
        potentials = eqb-true _ _ rest.1;
      }

  pub lengths-given : LengthsFit nodes facts certificate → lengths_fit nodes facts certificate ≡ true
  lengths-given fit = true-and _ _ (eq-eqb _ _ fit.coefficients) (true-and _ _ (eq-eqb _ _ fit.multipliers) (eq-eqb _ _ fit.potentials))

-- ---- numbers

-- One number, by its size.
size-only : (most : ℕ) (z : ℤ) → (leb (above z) most && leb (below z) most) ≡ true → nat_abs z ≤ most
size-only most (pos n) e = leb-true n most (and-true (leb n most) (leb 0 most) e).0
size-only most (negsuc n) e = leb-true (suc n) most (and-true (leb 0 most) (leb (suc n) most) e).1

size-given : (most : ℕ) (z : ℤ) → nat_abs z ≤ most → (leb (above z) most && leb (below z) most) ≡ true
size-given most (pos n) h = true-and (leb n most) (leb 0 most) (le-leb n most h) (le-leb 0 most (omega arith))
size-given most (negsuc n) h = true-and (leb 0 most) (leb (suc n) most) (le-leb 0 most (omega arith)) (le-leb (suc n) most h)

-- All of a list.
sizes-only : (most : ℕ) (numbers : List ℤ) → all_within most numbers ≡ true → (i : ℕ) → i < length numbers → nat_abs (get_or numbers i (pos 0)) ≤ most
sizes-only most numbers e i h = size-only most (get_or numbers i (pos 0)) (every-all (length numbers) _ e i h)

sizes-given : (most : ℕ) (numbers : List ℤ) → ((i : ℕ) → i < length numbers → nat_abs (get_or numbers i (pos 0)) ≤ most) → all_within most numbers ≡ true
sizes-given most numbers each = all-every (length numbers) _ (λ i h. size-given most (get_or numbers i (pos 0)) (each i h))

-- A number that is not below 0 is the number of its size.
sign-only : (z : ℤ) → eqb (below z) 0 ≡ true → z ≡ pos (nat_abs z)
sign-only (pos n) e = refl
sign-only (negsuc n) e = let zero = eqb-true (suc n) 0 e in absurd (omega arith)

sign-given : (z : ℤ) → z ≡ pos (nat_abs z) → eqb (below z) 0 ≡ true
sign-given z e = eq-eqb (below z) 0 (ap below e)

module _ (facts : Facts) (certificate : Certificate) where
  pub numbers-only : in_range facts certificate ≡ true → NumbersFit facts certificate
  numbers-only e =
      let one = and-true (ltb 0 certificate.denominator && leb certificate.denominator most_denominator) _ e in
      let denominator = and-true (ltb 0 certificate.denominator) _ one.0 in
      let two = and-true (all_within most_coefficient facts.coefficients) _ one.1 in
      let three = and-true (all_within most_coefficient facts.limits) _ two.1 in
      let four = and-true (multipliers_fit certificate.multipliers) _ three.1 in
      let multipliers = and-true (every (length certificate.multipliers) (λ f. eqb (below (get_or certificate.multipliers f (pos 0))) 0)) _ four.0 in
      record {
        denominator_least = ltb-true 0 certificate.denominator denominator.0;
        denominator_most = leb-true certificate.denominator most_denominator denominator.1;
        coefficients = sizes-only most_coefficient facts.coefficients two.0;
        limits = sizes-only most_coefficient facts.limits three.0;
        multipliers = λ f h. sign-only (get_or certificate.multipliers f (pos 0)) (every-all (length certificate.multipliers) _ multipliers.0 f h);
        multipliers_most = leb-true _ most_multipliers multipliers.1;
        potentials = sizes-only most_potential certificate.potentials four.1;
      }

  pub numbers-given : NumbersFit facts certificate → in_range facts certificate ≡ true
  numbers-given fit =
      true-and _ _ (true-and _ _ (lt-ltb 0 certificate.denominator fit.denominator_least) (le-leb certificate.denominator most_denominator fit.denominator_most))
      (true-and _ _ (sizes-given most_coefficient facts.coefficients fit.coefficients)
      (true-and _ _ (sizes-given most_coefficient facts.limits fit.limits)
      (true-and _ _
      (true-and _ _ (all-every (length certificate.multipliers) _ (λ f h. sign-given (get_or certificate.multipliers f (pos 0)) (fit.multipliers f h))) (le-leb _ most_multipliers fit.multipliers_most))
      (sizes-given most_potential certificate.potentials fit.potentials))))

-- ---- where it holds

-- A test of every target tells of every target.
tells-every_of : (test : ℕ → Bool) (P : ℕ → Type 0) (xs : List ℕ) → ((t : ℕ) → Tells (test t) (P t)) → Tells (every_of test xs) ((t : ℕ) → Among t xs → P t)
tells-every_of test P xs each =
    ((λ e t i. (each t).0 (every_of-all test xs e t i)), λ e all. true≢false (sym (all-every_of test xs (λ t i. holds-true (test t) (P t) (each t) (all t i))) ∙ e))

module _ (chart : Chart) (table : Lent) (question : Question) (n : ℕ) (inside : n < chart.header.nodes) where
  abbrev claim : Claim
  claim = claim_of (plan_of chart) table question

  holds-told : Tells (holds_at claim n)
      ((n ≡ chart.header.entry → rise claim n + below (potential claim n) ≤ above (potential claim n) + fall claim n)
      × ((get_or table.marks n 0 ≡ 0 → ⊥)
      → (t : ℕ)
      → Among t (claim.course.arrows n)
      → above (potential claim n) + rise claim t + below (potential claim t) ≤ above (potential claim t) + below (potential claim n) + fall claim t))
  holds-told =
      tells-and _ _ _ _ (tells-if _ _ _ _ (tells-eqb n chart.header.entry) (tells-leb _ _))
      (tells-if _ _ _ _ (tells-not _ _ (tells-eqb (get_or table.marks n 0) 0))
      (tells-every_of (arrow_holds claim n) _ (claim.course.arrows n) (λ t. tells-leb _ _)))

  to-arrows : (t : ℕ) → Among t (claim.course.arrows n) → Among t (arrows chart n)
  to-arrows t i = subst (Among t) (arrows-planned chart n inside) i

  from-arrows : (t : ℕ) → Among t (arrows chart n) → Among t (claim.course.arrows n)
  from-arrows t i = subst (Among t) (sym (arrows-planned chart n inside)) i

  pub holds-only : holds_at claim n ≡ true → HoldsAt chart table claim n
  holds-only e = let both = holds-told.0 e in record { start = both.0; arrow = λ marked t i. both.1 marked t (from-arrows t i) }

  pub holds-given : HoldsAt chart table claim n → holds_at claim n ≡ true
  holds-given holds = holds-true (holds_at claim n) _ holds-told (holds.start, λ marked t i. holds.arrow marked t (to-arrows t i))
