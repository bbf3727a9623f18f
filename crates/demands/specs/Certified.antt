-- What the bound of a certificate says of walks. Rules 5.1 to 5.3, 10.1 to 10.4 and 18.1 to 18.9. `certified` in proofs/Certified.antt proves it.
-- That a walk keeps the facts is for the caller to know: of a walk that does not, nothing is said.
use Rattle.std.specs.Prelude.{ℕ, ◌+◌, ◌*◌, ◌≤◌, ◌<◌, true, List, ◌∷◌, ◌≡◌, Ok}
use Rattle.lists.specs.Lists.{sum_of}
use Rattle.chart.specs.Chart.{Chart, accepted, read_chart}
use Rattle.flow.specs.Walk.{last_of, visits_of}
use Rattle.facts.specs.declared.Side.TheVariants.{High, Low}
use Rattle.facts.specs.Parts.{above, below}
use Rattle.facts.specs.Facts.{KeepsFacts, ruled_out}
use Rattle.facts.specs.Certificate.{Claim, rise, fall, potential}
use Rattle.ages.specs.Charted.{plan_of}
use Rattle.machine.specs.Machine.{Contents, cost_of}
use Rattle.costs.specs.Costs.{Figures}
use Rattle.tables.specs.Lent.{Lent}
use Rattle.totals.specs.Totals.{totals, totals_between}
use Rattle.deadline.specs.Widths.{SixteenBits}
use Rattle.certificate.specs.Bound.{Question, claim_of, bounded}
use Rattle.demands.specs.Demand3.{OnWalk, VisitsWithin}
use Rattle.demands.specs.AsFacts.{visit_facts, visit_question}

-- Rules 5.2 and 18.1: the visits of the walk keep every fact.
abbrev pub WalkKeeps : Chart → Question → List ℕ → Type 0
WalkKeeps chart question ts = KeepsFacts chart.header.nodes question.facts (λ n. visits_of n (chart.header.entry ∷ ts))

-- What the plain machine pays on the walk.
abbrev pub cost_in : (chart : Chart) → Question → List ℕ → Contents chart → ℕ
cost_in chart question ts contents = cost_of chart question.costs.hit question.costs.miss ts contents

-- Rules 18.3 and 18.4: what these visits are left with, added up, is no more than the potential of a node.
abbrev pub LeftWithin : Claim → (ℕ → ℕ) → ℕ → Type 0
LeftWithin claim visits last =
    sum_of claim.course.nodes (λ n. visits n * rise claim n) + below (potential claim last)
    ≤ above (potential claim last) + sum_of claim.course.nodes (λ n. visits n * fall claim n)

pub record Certified : Type 0 where
  -- wherever a bound is given, whatever table, facts and certificate it is given for: no walk that keeps the facts costs more than the high one
  pub no-more : (bytes : List ℕ) (chart : Chart) (table : Lent) (question : Question) (contents : Contents chart) (ts : List ℕ) (bound : ℕ)
      → OnWalk bytes chart contents ts
      → WalkKeeps chart question ts
      → question.side ≡ High
      → bounded bytes table question ≡ Ok bound
      → cost_in chart question ts contents ≤ bound
  -- and none less than the low one
  pub no_less : (bytes : List ℕ) (chart : Chart) (table : Lent) (question : Question) (contents : Contents chart) (ts : List ℕ) (bound : ℕ)
      → OnWalk bytes chart contents ts
      → WalkKeeps chart question ts
      → question.side ≡ Low
      → bounded bytes table question ≡ Ok bound
      → bound ≤ cost_in chart question ts contents
  -- what it goes by: wherever a walk stops, what its visits are left with, added up, is no more than the potential of its last node, whether it keeps the
  -- facts or not. What is below 0 stands on the other side
  pub along : (bytes : List ℕ) (chart : Chart) (table : Lent) (question : Question) (contents : Contents chart) (ts : List ℕ) (bound : ℕ)
      → OnWalk bytes chart contents ts
      → bounded bytes table question ≡ Ok bound
      → LeftWithin (claim_of (plan_of chart) table question) (λ n. visits_of n (chart.header.entry ∷ ts)) (last_of chart.header.entry ts)
  -- rule 18.7: a walk that keeps the facts does not come to a node that one of them rules out
  pub ruled_out-zero : (chart : Chart) (question : Question) (ts : List ℕ) (n : ℕ)
      → WalkKeeps chart question ts
      → n < chart.header.nodes
      → ruled_out chart.header.nodes question.facts n ≡ true
      → visits_of n (chart.header.entry ∷ ts) ≡ 0
  -- nothing is lost: a walk keeps floors and ceilings exactly if it keeps them as facts
  pub as_facts : (chart : Chart) (figures : Figures) (ts : List ℕ)
      → VisitsWithin chart figures ts
      → KeepsFacts chart.header.nodes (visit_facts chart.header.nodes figures) (λ n. visits_of n (chart.header.entry ∷ ts))
  pub from_facts : (chart : Chart) (figures : Figures) (ts : List ℕ)
      → KeepsFacts chart.header.nodes (visit_facts chart.header.nodes figures) (λ n. visits_of n (chart.header.entry ∷ ts))
      → VisitsWithin chart figures ts
  -- and where there are totals, certificates for these facts come to just them
  pub high-total : (bytes : List ℕ) (chart : Chart) (table : Lent) (figures : Figures) (low high : ℕ)
      → read_chart bytes ≡ accepted chart
      → SixteenBits figures
      → totals bytes table figures ≡ totals_between low high
      → bounded bytes table (visit_question (plan_of chart) table figures High) ≡ Ok high
  pub low-total : (bytes : List ℕ) (chart : Chart) (table : Lent) (figures : Figures) (low high : ℕ)
      → read_chart bytes ≡ accepted chart
      → SixteenBits figures
      → totals bytes table figures ≡ totals_between low high
      → bounded bytes table (visit_question (plan_of chart) table figures Low) ≡ Ok low
