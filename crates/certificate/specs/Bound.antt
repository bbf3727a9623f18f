-- The bound of a certificate for any bytes, lent table, costs and facts, and its refusals. Rules 10.2 to 10.4, 11.0, 11.11, 11.13, 11.15, 11.23 to
-- 11.25, 12.8, 18.3, 18.4, 18.6 and 18.9; what a certificate comes to over any nodes is said in `facts`, and what a visit costs and which blocks stay in `costs`.
-- Costs, numbers and denominator are any numbers here; rule 18.8 has the ranges, and 16 bits for the costs are rule 10.1's.
use Rattle.std.specs.Prelude.{ℕ, ◌+◌, not, List, [], ◌∷◌, ltb, Err, Ok, Result}
use Rattle.lists.specs.Choice.{Case, ◌⇒◌, first_case}
use Rattle.refusals.specs.declared.Refusal.{Refusal}
use Rattle.refusals.specs.declared.Refusal.TheVariants.{ShortBuffer, NotPassing, MissBelowHit, FactsLength, NumberOutOfRange, CertificateFails}
use Rattle.refusals.specs.Refusals.{number_of, place_of}
use Rattle.chart.specs.Chart.{Read, accepted, refused, read_chart}
use Rattle.flow.specs.Flow.{cell_at}
use Rattle.facts.specs.declared.Side.{Side}
use Rattle.facts.specs.declared.Side.TheVariants.{High, Low}
use Rattle.facts.specs.Facts.{Facts, openings}
use Rattle.facts.specs.Certificate.{Certificate, Course, Claim, first_failing, highest, lowest, in_range, lengths_fit}
use Rattle.ages.specs.Plan.{Plan, arrows_in}
use Rattle.ages.specs.Charted.{plan_of}
use Rattle.tables.specs.Lent.{Lent, table_of, table_short}
use Rattle.checker.specs.Checker.{marked, passing}
use Rattle.costs.specs.Costs.{Costs, high_rate, low_rate, visit_cost, classes_at, kept_charge}

-- All that is asked of a chart and a table: costs, the side, facts and a certificate.
pub record Question : Type 0 where
  pub costs : Costs
  pub side : Side
  pub facts : Facts
  pub certificate : Certificate

-- Rule 18.3: what a touch of a class counts on a side, as rules 10.2 and 10.3 have it.
abbrev pub side_rate : Side → Costs → ℕ → ℕ
side_rate High costs = high_rate costs
side_rate Low costs = low_rate costs

-- Rule 18.3: the nodes of a lent table, with what one visit of each counts.
abbrev pub course_of : Plan → Lent → Side → Costs → Course
course_of plan lent side costs =
    record {
      nodes = plan.nodes;
      entry = plan.entry;
      arrows = arrows_in plan;
      marked = marked lent;
      cost = λ n. visit_cost (classes_at plan n) (side_rate side costs) (cell_at (table_of plan lent) n);
    }

abbrev pub claim_of : Plan → Lent → Question → Claim
claim_of plan lent question =
    record {
      side = question.side;
      course = course_of plan lent question.side question.costs;
      facts = question.facts;
      certificate = question.certificate;
    }

-- Rules 10.4 and 18.6: the difference between a miss and a hit, once for each block of which a touch is called kept at a marked node that no fact rules out.
abbrev pub loads_of : Plan → Lent → Question → ℕ
loads_of plan lent question =
    kept_charge plan (table_of plan lent) (record { costs = question.costs; floors = []; ceilings = openings plan.nodes question.facts })

-- Rule 18.6: the bound on a side.
abbrev pub side_bound : Side → Plan → Lent → Question → ℕ
side_bound High plan lent question = highest (claim_of plan lent question) + loads_of plan lent question
side_bound Low plan lent question = lowest (claim_of plan lent question)

abbrev pub bound_of : Plan → Lent → Question → Result ℕ Refusal
bound_of plan lent question = Ok (side_bound question.side plan lent question)

-- Rules 11.25 and 18.4: the first node at which the certificate does not hold, or N.
abbrev pub failing_at : Plan → Lent → Question → ℕ
failing_at plan lent question = first_failing (claim_of plan lent question)

-- Rules 11.15 and 11.23 to 11.25, in the order of rule 11.0.
abbrev pub question_cases : Plan → Lent → Question → List (Case Refusal)
question_cases plan lent question =
    (ltb question.costs.miss question.costs.hit ⇒ MissBelowHit)
    ∷ (not (lengths_fit plan.nodes question.facts question.certificate) ⇒ FactsLength)
    ∷ (not (in_range question.facts question.certificate) ⇒ NumberOutOfRange)
    ∷ (ltb (failing_at plan lent question) plan.nodes ⇒ CertificateFails (failing_at plan lent question))
    ∷ []

-- Rule 18.9, of a table that passes.
unfoldable pub bounded_by : Plan → Lent → Question → Result ℕ Refusal
bounded_by plan lent question = first_case Err (question_cases plan lent question) (bound_of plan lent question)

-- Rules 11.11, 11.13, 11.15 and 11.23 to 11.25, in the order of rule 11.0.
abbrev pub bound_cases : Plan → Lent → Question → List (Case Refusal)
bound_cases plan lent question =
    (table_short plan lent ⇒ ShortBuffer) ∷ (not (passing plan lent) ⇒ NotPassing) ∷ question_cases plan lent question

-- Rule 18.9, of a chart that was read; refusals 1 to 10 are the reader's.
abbrev pub bound_read : Lent → Question → Read → Result ℕ Refusal
bound_read lent question (accepted chart) =
    first_case Err (bound_cases (plan_of chart) lent question) (bound_of (plan_of chart) lent question)
bound_read lent question (refused refusal) = Err refusal

-- Rule 18.9, of any bytes.
unfoldable pub bounded : List ℕ → Lent → Question → Result ℕ Refusal
bounded bytes lent question = bound_read lent question (read_chart bytes)

-- The answer in numbers: number and place, both 0 for no refusal, then the bound.
pub record BoundSaid : Type 0 where
  pub number : ℕ
  pub place : ℕ
  pub bound : ℕ

-- Rules 12.8 and 18.9: the bound, or a refusal's number and place.
abbrev pub bounded_say : Result ℕ Refusal → BoundSaid
bounded_say (Ok bound) = record { number = 0; place = 0; bound = bound }
bounded_say (Err refusal) = record { number = number_of refusal; place = place_of refusal; bound = 0 }

-- The same of any bytes.
abbrev pub bound_says : List ℕ → Lent → Question → BoundSaid
bound_says bytes lent question = bounded_say (bounded bytes lent question)

-- As the clauses of a contract name it.
abbrev pub asked : Side → ℕ → ℕ → Facts → Certificate → Question
asked side hit miss facts certificate =
    record { costs = record { hit = hit; miss = miss }; side = side; facts = facts; certificate = certificate }
