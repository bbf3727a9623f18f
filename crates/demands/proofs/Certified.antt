-- The bound of a certificate holds of every walk that keeps the facts; floors and ceilings are such facts, and certificates for them come to the totals.
use Rattle.std.specs.Prelude.{Ok}
use Prim.Native.Nat.{ℕ, ◌≤◌}
use mathlib.Core.List.{List, ◌∷◌}
use mathlib.Core.Path.{◌≡◌, sym, ap, ◌∙◌}
use native.Mathlib.Omega.{arith}
use Rattle.lists.specs.Choice.{NoneApplies}
use Rattle.chart.specs.Chart.{Chart, accepted, read_chart}
use Rattle.chart.proofs.Accepted.{accepted-entry}
use Rattle.flow.specs.Walk.{Walk, last_of, visits_of}
use Rattle.flow.proofs.Paying.{along-visits}
use Rattle.facts.specs.declared.Side.{Side}
use Rattle.facts.specs.declared.Side.TheVariants.{High, Low}
use Rattle.facts.specs.Certificate.{rise, fall}
use Rattle.facts.proofs.Bounding.{AllMarked, all-below, starts, climb, ruled_out-zero, walk-no-more, walk-no-less}
use Rattle.ages.specs.Plan.{arrows_in}
use Rattle.ages.specs.Charted.{plan_of}
use Rattle.ages.proofs.Charting.{onward-planned}
use Rattle.machine.specs.Machine.{Contents}
use Rattle.costs.specs.Costs.{Figures, low_total, high_total}
use Rattle.tables.specs.Lent.{Lent, table_of}
use Rattle.totals.specs.Totals.{totals, totals_between}
use Rattle.deadline.proofs.Below.{both-same}
use Rattle.deadline.specs.Widths.{SixteenBits}
use Rattle.certificate.specs.Bound.{Question, side_rate, course_of, claim_of, side_bound, bound_cases, bounded}
use Rattle.demands.specs.Demand1.{Summable}
use Rattle.demands.specs.Demand3.{OnWalk}
use Rattle.demands.specs.Bounding.{Boundable}
use Rattle.demands.specs.AsFacts.{visit_question}
use Rattle.demands.specs.Certified.{WalkKeeps, cost_in, LeftWithin, Certified}
use Rattle.demands.proofs.Totalling.{totals-refusals}
use Rattle.demands.proofs.AsFacts.{all-kept, kept-floors, kept-ceilings}
use Rattle.demands.proofs.Recovered.{high-recovered, low-recovered}
use Rattle.demands.proofs.Bounding.{given-none, given-bound, none-boundable}
use Rattle.demands.proofs.Visiting.{walk-marked, counted_at, visits-below, visits-above, charge-open}

module _ (bytes : List ℕ) (chart : Chart) (table : Lent) (question : Question) (contents : Contents chart) (ts : List ℕ) (bound : ℕ)
    (on : OnWalk bytes chart contents ts) (answered : bounded bytes table question ≡ Ok bound) where
  none : NoneApplies (bound_cases (plan_of chart) table question)
  none = given-none bytes chart table question on.read bound answered

  boundable : Boundable chart table question
  boundable = none-boundable bytes chart table question on.read none

  walk : Walk (arrows_in (plan_of chart)) chart.header.entry ts
  walk = onward-planned bytes chart on.read chart.header.entry (accepted-entry bytes chart on.read) ts on.walk

  marked : AllMarked (course_of (plan_of chart) table question.side question.costs) (chart.header.entry ∷ ts)
  marked = walk-marked bytes chart table contents ts on boundable.passing question.costs question.side

  -- What the walk's visits count at a rate, and the bound of a side.
  abbrev counted : (ℕ → ℕ) → ℕ
  counted = counted_at bytes chart table contents ts on boundable.passing question.costs

  of-side : (side : Side) → question.side ≡ side
      → (counted (side_rate question.side question.costs) ≡ counted (side_rate side question.costs)) × (bound ≡ side_bound side (plan_of chart) table question)
  of-side side e =
      (ap (λ (s : Side). counted (side_rate s question.costs)) e, given-bound bytes chart table question on.read bound answered ∙ ap (λ (s : Side). side_bound s (plan_of chart) table question) e)

  left-within : LeftWithin (claim_of (plan_of chart) table question) (λ n. visits_of n (chart.header.entry ∷ ts)) (last_of chart.header.entry ts)
  left-within =
      let claim = claim_of (plan_of chart) table question in
      let inside = all-below claim.course (chart.header.entry ∷ ts) marked in
      let rises = along-visits chart.header.nodes (rise claim) (chart.header.entry ∷ ts) inside in
      let falls = along-visits chart.header.nodes (fall claim) (chart.header.entry ∷ ts) inside in
      let first = starts claim none.1.1.1.1.1.0 marked.0.0 in
      let onward = climb claim none.1.1.1.1.1.0 chart.header.entry ts walk marked in
      omega arith

  no-more : WalkKeeps chart question ts → question.side ≡ High → cost_in chart question ts contents ≤ bound
  no-more keeps high =
      let same = of-side High high in
      let most = walk-no-more (claim_of (plan_of chart) table question) boundable.lengths.multipliers none.1.1.1.1.1.0 ts walk marked keeps high boundable.numbers.denominator_least in
      let cost = visits-above bytes chart table contents ts on boundable.passing question.costs boundable.costs in
      let loads = charge-open bytes chart table contents ts on boundable.passing question.costs question.facts keeps in
      omega arith

  no_less : WalkKeeps chart question ts → question.side ≡ Low → bound ≤ cost_in chart question ts contents
  no_less keeps low =
      let same = of-side Low low in
      let least = walk-no-less (claim_of (plan_of chart) table question) boundable.lengths.multipliers none.1.1.1.1.1.0 ts walk marked keeps low boundable.numbers.denominator_least in
      let cost = visits-below bytes chart table contents ts on boundable.passing question.costs boundable.costs in
      omega arith

-- ---- floors and ceilings as facts

module _ (bytes : List ℕ) (chart : Chart) (table : Lent) (figures : Figures) (low high : ℕ) (read : read_chart bytes ≡ accepted chart)
    (bits : SixteenBits figures) (sums : totals bytes table figures ≡ totals_between low high) where
  summable : Summable chart table figures
  summable = (totals-refusals bytes chart table figures read).only_sums low high sums

  totals-are : totals_between (low_total (plan_of chart) (table_of (plan_of chart) table) figures) (high_total (plan_of chart) (table_of (plan_of chart) table) figures) ≡ totals_between low high
  totals-are = sym ((totals-refusals bytes chart table figures read).sums summable) ∙ sums

  high-total : bounded bytes table (visit_question (plan_of chart) table figures High) ≡ Ok high
  high-total =
      let is : high_total (plan_of chart) (table_of (plan_of chart) table) figures ≡ high = second totals-are in
      high-recovered bytes chart table figures read bits summable ∙ ap Ok is
    where
      second : {a b c d : ℕ} → totals_between a b ≡ totals_between c d → b ≡ d
      second e = (both-same e).1

  low-total : bounded bytes table (visit_question (plan_of chart) table figures Low) ≡ Ok low
  low-total =
      let is : low_total (plan_of chart) (table_of (plan_of chart) table) figures ≡ low = first totals-are in
      low-recovered bytes chart table figures read bits summable ∙ ap Ok is
    where
      first : {a b c d : ℕ} → totals_between a b ≡ totals_between c d → a ≡ c
      first e = (both-same e).0

pub certified : Certified
certified =
    record {
      no-more = λ bytes chart table question contents ts bound on keeps high answered. no-more bytes chart table question contents ts bound on answered keeps high;
      no_less = λ bytes chart table question contents ts bound on keeps low answered. no_less bytes chart table question contents ts bound on answered keeps low;
      along = left-within;
      ruled_out-zero = λ chart question ts n keeps inside out. ruled_out-zero chart.header.nodes question.facts (λ k. visits_of k (chart.header.entry ∷ ts)) n keeps inside out;
      as_facts = λ chart figures ts within. all-kept chart.header.nodes figures (λ n. visits_of n (chart.header.entry ∷ ts)) within.no_less within.no-more;
      from_facts = λ chart figures ts keeps.
          record {
            no_less = kept-floors chart.header.nodes figures (λ n. visits_of n (chart.header.entry ∷ ts)) keeps;
            no-more = kept-ceilings chart.header.nodes figures (λ n. visits_of n (chart.header.entry ∷ ts)) keeps;
          };
      high-total = high-total;
      low-total = low-total;
    }
