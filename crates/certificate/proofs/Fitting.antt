-- Where lists have their lengths and numbers are in their ranges, the functions that hold a certificate to a plan have all that they ask for.
use Prim.Native.Nat.{ℕ, ◌*◌, ◌≤◌, ◌<◌}
use mathlib.Core.Bool.{true, ◌&&◌}
use mathlib.Core.List.{List}
use mathlib.Core.Path.{◌≡◌, sym, ap, ◌∙◌}
use native.Mathlib.Omega.{arith}
use borrow.Author.Tests.{eqb-true, leb-true, ltb-true}
use lib.Dec.{eqb, leb, ltb}
use lib.IntN.{ℤ}
use lib.ListN.{length}
use Rattle.lists.proofs.Choice.{and-true}
use Rattle.chart.specs.Geometry.{most_touches}
use Rattle.facts.specs.Facts.{Facts, fact_count}
use Rattle.facts.specs.Certificate.{Certificate, most_denominator, most_coefficient, most_potential, all_within, multipliers_fit, in_range, lengths_fit}
use Rattle.facts.specs.Inner.{Weighable}
use Rattle.plan.specs.Listed.{Drawn}
use Rattle.plan.proofs.Holding.{node-leads}
use Rattle.certificate.specs.declared.visiting.Price.{Price}
use Rattle.certificate.specs.Inner.{Laid, PlanLaid, MarksLaid}

-- A plan that is drawn.
pub plan-laid : (columns plan : List ℕ) → Drawn columns plan → PlanLaid plan
plan-laid columns plan drawn =
    record { long = drawn.plan_long; entry_inside = drawn.sound.entry_inside; leads = node-leads columns plan drawn }

module _ (price : Price) (facts : Facts) (multipliers potentials : List ℤ) (nodes : ℕ) where
  abbrev certificate : Certificate
  certificate = record { multipliers = multipliers; potentials = potentials; denominator = price.denominator }

  module _ (long : lengths_fit nodes facts certificate ≡ true) where
    lengths : (length facts.coefficients ≡ fact_count facts * nodes) × ((length multipliers ≡ fact_count facts) × (length potentials ≡ nodes))
    lengths =
        let both = and-true (eqb (length facts.coefficients) (fact_count facts * nodes)) (eqb (length multipliers) (fact_count facts) && eqb (length potentials) nodes) long in
        let rest = and-true (eqb (length multipliers) (fact_count facts)) (eqb (length potentials) nodes) both.1 in
        (eqb-true _ _ both.0, (eqb-true _ _ rest.0, eqb-true _ _ rest.1))

    pub facts-laid : length facts.coefficients ≡ fact_count facts * nodes
    facts-laid = lengths.0

    pub limits-many : length multipliers ≡ fact_count facts
    limits-many = lengths.1.0

    pub potentials-many : length potentials ≡ nodes
    potentials-many = lengths.1.1

  module _ (small : in_range facts certificate ≡ true) where
    denominator-tests : ((ltb 0 price.denominator && leb price.denominator most_denominator) ≡ true) × ((all_within most_coefficient facts.coefficients && (all_within most_coefficient facts.limits && (multipliers_fit multipliers && all_within most_potential potentials))) ≡ true)
    denominator-tests = and-true (ltb 0 price.denominator && leb price.denominator most_denominator) (all_within most_coefficient facts.coefficients && (all_within most_coefficient facts.limits && (multipliers_fit multipliers && all_within most_potential potentials))) small

    pub denominator-fits : (0 < price.denominator) × (price.denominator ≤ most_denominator)
    denominator-fits =
        let both = and-true (ltb 0 price.denominator) (leb price.denominator most_denominator) denominator-tests.0 in
        (ltb-true 0 price.denominator both.0, leb-true price.denominator most_denominator both.1)

    coefficients-tests : (all_within most_coefficient facts.coefficients ≡ true) × ((all_within most_coefficient facts.limits && (multipliers_fit multipliers && all_within most_potential potentials)) ≡ true)
    coefficients-tests = and-true (all_within most_coefficient facts.coefficients) (all_within most_coefficient facts.limits && (multipliers_fit multipliers && all_within most_potential potentials)) denominator-tests.1

    limits-tests : (all_within most_coefficient facts.limits ≡ true) × ((multipliers_fit multipliers && all_within most_potential potentials) ≡ true)
    limits-tests = and-true (all_within most_coefficient facts.limits) (multipliers_fit multipliers && all_within most_potential potentials) coefficients-tests.1

    last-tests : (multipliers_fit multipliers ≡ true) × (all_within most_potential potentials ≡ true)
    last-tests = and-true (multipliers_fit multipliers) (all_within most_potential potentials) limits-tests.1

    pub potentials-small : all_within most_potential potentials ≡ true
    potentials-small = last-tests.1

  module _ (long : lengths_fit nodes facts certificate ≡ true) (small : in_range facts certificate ≡ true) where
    pub lists-laid : (classes : List ℕ) → most_touches * nodes ≤ length classes → Laid price (record { classes = classes; coefficients = facts.coefficients; multipliers = multipliers; potentials = potentials }) nodes
    lists-laid classes room =
        record {
          classes_long = room;
          coefficients_long = facts-laid long ∙ ap (λ (k : ℕ). k * nodes) (sym (limits-many long));
          potentials_long = potentials-many long;
          coefficients-fit = (coefficients-tests small).0;
          multipliers-fit = (last-tests small).0;
          potentials-fit = (last-tests small).1;
          denominator_most = (denominator-fits small).1;
        }

    pub limits-weighable : Weighable multipliers facts.limits 1 0
    limits-weighable =
        record { reaches = λ f h. omega (arith, limits-many long); multipliers-fit = (last-tests small).0; numbers_fit = (limits-tests small).0 }

    pub marks-laid : (marks : List ℕ) → nodes ≤ length marks → MarksLaid marks potentials nodes
    marks-laid marks room = record { marks_long = room; potentials_long = potentials-many long; potentials-fit = potentials-small small }
