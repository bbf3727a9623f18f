-- Of demand 1: what is answered for a certificate. Rules 11.1 to 11.11, 11.13, 11.15, 11.23 to 11.25, 12.8, 18.4, 18.8 and 18.9: exactly the first
-- refusal that applies, and else the bound. `bounding` in proofs/Bounding.antt proves it.
use Rattle.std.specs.Prelude.{ℕ, ◌+◌, ◌*◌, ◌^◌, ◌≤◌, ◌<◌, List, [], ◌∷◌, ◌≡◌, pos, nat_abs, get_or, length, Err, Ok, false}
use Rattle.lists.specs.Lists.{Among, sum_of}
use Rattle.lists.specs.Choice.{FirstApplies}
use Rattle.refusals.specs.declared.Refusal.{Refusal}
use Rattle.refusals.specs.declared.Refusal.TheVariants.{ShortBuffer, NotPassing, MissBelowHit, FactsLength, NumberOutOfRange, CertificateFails}
use Rattle.refusals.specs.Refusals.{number_of, place_of}
use Rattle.chart.specs.Chart.{Chart, accepted, refused, read_chart, arrows}
use Rattle.facts.specs.Parts.{above, below}
use Rattle.facts.specs.Facts.{Facts, fact_count}
use Rattle.facts.specs.Certificate.{Certificate, Claim, rise, fall, potential}
use Rattle.ages.specs.Charted.{plan_of}
use Rattle.tables.specs.Lent.{Lent, TablePasses, SameUsed}
use Rattle.checker.specs.Checker.{checked}
use Rattle.certificate.specs.Bound.{Question, claim_of, bound_of, bound_cases, bounded, bound_says}
use Rattle.demands.specs.Ordered.{numbers_of}

-- Rule 11.23 does not apply: each fact has a coefficient for each node, and a multiplier; each node has a potential.
pub record LengthsFit (nodes : ℕ) (facts : Facts) (certificate : Certificate) : Type 0 where
  pub coefficients : length facts.coefficients ≡ fact_count facts * nodes
  pub multipliers : length certificate.multipliers ≡ fact_count facts
  pub potentials : length certificate.potentials ≡ nodes

-- Rule 11.24 does not apply: the numbers are in the ranges of rule 18.8.
pub record NumbersFit (facts : Facts) (certificate : Certificate) : Type 0 where
  pub denominator_least : 1 ≤ certificate.denominator
  pub denominator_most : certificate.denominator ≤ 2 ^ 32
  pub coefficients : (i : ℕ) → i < length facts.coefficients → nat_abs (get_or facts.coefficients i (pos 0)) ≤ 2 ^ 24
  pub limits : (f : ℕ) → f < length facts.limits → nat_abs (get_or facts.limits f (pos 0)) ≤ 2 ^ 24
  pub multipliers : (f : ℕ) → f < length certificate.multipliers → get_or certificate.multipliers f (pos 0) ≡ pos (nat_abs (get_or certificate.multipliers f (pos 0)))
  pub multipliers_most : sum_of (length certificate.multipliers) (λ f. above (get_or certificate.multipliers f (pos 0))) ≤ 2 ^ 36
  pub potentials : (n : ℕ) → n < length certificate.potentials → nat_abs (get_or certificate.potentials n (pos 0)) ≤ 2 ^ 60

-- Rule 18.4 at node n, as a statement: the entry's potential is no less than r(entry), and along an arrow out of a marked node the target's is no less
-- than the node's and r(target). What is below 0 stands on the other side.
pub record HoldsAt (chart : Chart) (table : Lent) (claim : Claim) (n : ℕ) : Type 0 where
  pub start : n ≡ chart.header.entry → rise claim n + below (potential claim n) ≤ above (potential claim n) + fall claim n
  pub arrow : (get_or table.marks n 0 ≡ 0 → ⊥)
      → (t : ℕ)
      → Among t (arrows chart n)
      → above (potential claim n) + rise claim t + below (potential claim t) ≤ above (potential claim t) + below (potential claim n) + fall claim t

-- What has to hold for a bound to be given: rules 11.11, 11.13, 11.15 and 11.23 to 11.25 turned round.
pub record Boundable (chart : Chart) (table : Lent) (question : Question) : Type 0 where
  pub passing : TablePasses (plan_of chart) table
  pub costs : question.costs.hit ≤ question.costs.miss
  pub lengths : LengthsFit chart.header.nodes question.facts question.certificate
  pub numbers : NumbersFit question.facts question.certificate
  pub holds : (n : ℕ) → n < chart.header.nodes → HoldsAt chart table (claim_of (plan_of chart) table question) n

-- Rule 18.9, of an accepted chart: exactly the first of 11, 13, 15 and 23 to 25 that applies, else the bound. 11 and 13 are the checker's refusal and
-- its no.
pub record BoundRefusals (bytes : List ℕ) (chart : Chart) (table : Lent) (question : Question) : Type 0 where
  pub given : (refusal : Refusal) → FirstApplies (bound_cases (plan_of chart) table question) refusal → bounded bytes table question ≡ Err refusal
  pub only : (refusal : Refusal) → bounded bytes table question ≡ Err refusal → FirstApplies (bound_cases (plan_of chart) table question) refusal
  pub order : numbers_of (bound_cases (plan_of chart) table question) ≡ 11 ∷ 13 ∷ 15 ∷ 23 ∷ 24 ∷ 25 ∷ []
  pub short : checked bytes table ≡ Err ShortBuffer → bounded bytes table question ≡ Err ShortBuffer
  pub not_passing : checked bytes table ≡ Ok false → bounded bytes table question ≡ Err NotPassing
  -- the others in turn, as statements: a miss below a hit, lengths, ranges, and the first node at which the certificate does not hold
  pub dear-hit : TablePasses (plan_of chart) table → question.costs.miss < question.costs.hit → bounded bytes table question ≡ Err MissBelowHit
  pub lengths : TablePasses (plan_of chart) table
      → question.costs.hit ≤ question.costs.miss
      → (LengthsFit chart.header.nodes question.facts question.certificate → ⊥)
      → bounded bytes table question ≡ Err FactsLength
  pub ranges : TablePasses (plan_of chart) table
      → question.costs.hit ≤ question.costs.miss
      → LengthsFit chart.header.nodes question.facts question.certificate
      → (NumbersFit question.facts question.certificate → ⊥)
      → bounded bytes table question ≡ Err NumberOutOfRange
  pub fails : TablePasses (plan_of chart) table
      → question.costs.hit ≤ question.costs.miss
      → LengthsFit chart.header.nodes question.facts question.certificate
      → NumbersFit question.facts question.certificate
      → (n : ℕ)
      → n < chart.header.nodes
      → ((k : ℕ) → k < n → HoldsAt chart table (claim_of (plan_of chart) table question) k)
      → (HoldsAt chart table (claim_of (plan_of chart) table question) n → ⊥)
      → bounded bytes table question ≡ Err (CertificateFails n)
  -- the bound, exactly where nothing applies
  pub bound : Boundable chart table question → bounded bytes table question ≡ bound_of (plan_of chart) table question
  pub only_bound : (bound : ℕ) → bounded bytes table question ≡ Ok bound → Boundable chart table question

pub record Bounding : Type 0 where
  -- rules 11.1 to 11.10: what the reader refuses
  pub chart_first : (bytes : List ℕ) (table : Lent) (question : Question) (refusal : Refusal) → read_chart bytes ≡ refused refusal → bounded bytes table question ≡ Err refusal
  pub refusals : (bytes : List ℕ) (chart : Chart) (table : Lent) (question : Question) → read_chart bytes ≡ accepted chart → BoundRefusals bytes chart table question
  -- rule 18.9: which numbers there are
  pub numbers : (bytes : List ℕ) (table : Lent) (question : Question)
      → Among (bound_says bytes table question).number (0 ∷ 1 ∷ 2 ∷ 3 ∷ 4 ∷ 5 ∷ 6 ∷ 7 ∷ 8 ∷ 9 ∷ 10 ∷ 11 ∷ 13 ∷ 15 ∷ 23 ∷ 24 ∷ 25 ∷ [])
  -- rule 12.8: a bound comes with number and place 0, and any refusal with a bound of 0
  pub bound_said : (bytes : List ℕ) (table : Lent) (question : Question) (bound : ℕ)
      → bounded bytes table question ≡ Ok bound
      → bound_says bytes table question ≡ record { number = 0; place = 0; bound = bound }
  pub refusal_said : (bytes : List ℕ) (table : Lent) (question : Question) (refusal : Refusal)
      → bounded bytes table question ≡ Err refusal
      → bound_says bytes table question ≡ record { number = number_of refusal; place = place_of refusal; bound = 0 }
  -- rule 18.9: of a lent table only the used parts are looked at
  pub used : (bytes : List ℕ) (chart : Chart) (one other : Lent) (question : Question)
      → read_chart bytes ≡ accepted chart
      → SameUsed (plan_of chart) one other
      → bounded bytes one question ≡ bounded bytes other question
