-- Where there are totals, certificates for floors and ceilings as facts hold, their numbers are in range, and they come to just those totals.
use Rattle.std.specs.Prelude.{Ok}
use Prim.Native.Nat.{ℕ, zero, suc, ◌+◌, ◌-◌, ◌*◌, ◌/◌, ◌%◌, ◌^◌, ◌≤◌, ◌<◌}
use mathlib.Core.Bool.{Bool, true, false, cond, ◌&&◌}
use mathlib.Core.List.{List}
use mathlib.Core.Path.{◌≡◌, refl, sym, ap, ◌∙◌}
use native.Mathlib.Omega.{arith}
use lib.Dec.{eqb, ltb}
use lib.IntN.{ℤ, pos, negsuc, nat_abs, neg_ℤ}
use lib.ListN.{get_or, length}
use Rattle.lists.specs.Lists.{sum_of}
use Rattle.lists.proofs.Listed.{length-list_of, get_or-list_of}
use Rattle.lists.proofs.Loops.{any_same}
use Rattle.lists.proofs.Sums.{sum-equal, sum-most}
use Rattle.chart.specs.Chart.{Chart, accepted, read_chart}
use Rattle.chart.proofs.Accepted.{accepted-nodes}
use Rattle.cache.specs.Ages.{Ages}
use Rattle.flow.specs.Flow.{Cell, cell_at}
use Rattle.chart.specs.Geometry.{most_nodes}
use Rattle.facts.specs.declared.Side.{Side}
use Rattle.facts.specs.declared.Side.TheVariants.{High, Low}
use Rattle.facts.specs.Parts.{above, below}
use Rattle.facts.specs.Certificate.{Course, Claim, gain, loss, rise, fall, potential}
use Rattle.ages.specs.Plan.{Plan}
use Rattle.ages.specs.Charted.{plan_of}
use Rattle.ages.proofs.Charting.{arrow-inside}
use Rattle.costs.specs.Costs.{Figures, total_by, keeps_at, kept_charge, high_total, low_total}
use Rattle.tables.specs.Lent.{Lent, table_of}
use Rattle.totals.proofs.Summing.{low-rate-most, high-rate-most}
use Rattle.deadline.specs.Widths.{SixteenBits}
use Rattle.deadline.proofs.Below.{visit-most}
use Rattle.certificate.specs.Bound.{side_rate, course_of, loads_of, bounded}
use Rattle.demands.specs.Demand1.{Summable}
use Rattle.demands.specs.Bounding.{LengthsFit, NumbersFit, HoldsAt, Boundable}
use Rattle.demands.specs.AsFacts.{visit_coefficient, visit_facts, visit_multiplier, visit_question}
use Rattle.demands.proofs.Bounding.{bound-refusals}
use Rattle.demands.proofs.AsFacts.{fact-count, limit_is, opened}
use Rattle.demands.proofs.Multiplying.{claim, multiplier, multiplier-count, multiplier-is, ceiling-multiplier, floor-multiplier, halves}
use Rattle.demands.proofs.Multiplying.{left-nothing, no-potential, ceilings-bound, floors-bound}

-- ---- numbers in their ranges

coefficient-small : (s t : Bool) → nat_abs (cond s (pos 1) (cond t (negsuc 0) (pos 0))) ≤ 1
coefficient-small true t = omega arith
coefficient-small false true = omega arith
coefficient-small false false = omega arith

size-negative : (k : ℕ) → nat_abs (neg_ℤ (pos k)) ≡ k
size-negative zero = refl
size-negative (suc k) = refl

limit-small : (t : Bool) (ceiling floor most : ℕ) → ceiling ≤ most → floor ≤ most → nat_abs (cond t (pos ceiling) (neg_ℤ (pos floor))) ≤ most
limit-small true ceiling floor most h g = h
limit-small false ceiling floor most h g = omega (arith, size-negative floor)

none_below : (t : Bool) (a b : ℕ) → cond t (pos a) (pos b) ≡ pos (nat_abs (cond t (pos a) (pos b)))
none_below true a b = refl
none_below false a b = refl

multiplier-sign : (side : Side) (nodes : ℕ) (cost : ℕ → ℕ) (f : ℕ) → visit_multiplier side nodes cost f ≡ pos (nat_abs (visit_multiplier side nodes cost f))
multiplier-sign High nodes cost f = none_below (ltb f nodes) (cost f) 0
multiplier-sign Low nodes cost f = none_below (ltb f nodes) 0 (cost (f - nodes))

gain-most : (side : Side) (k : ℕ) → gain side k ≤ k
gain-most High k = omega arith
gain-most Low k = omega arith

loss-most : (side : Side) (k : ℕ) → loss side k ≤ k
loss-most High k = omega arith
loss-most Low k = omega arith

module _ (course : Course) (figures : Figures) (side : Side) where
  -- A coefficient by its place in the list.
  abbrev coefficient : ℕ → ℤ
  coefficient i = visit_coefficient course.nodes (i / course.nodes) (i % course.nodes)

  lengths-fit : LengthsFit course.nodes (claim course figures side).facts (claim course figures side).certificate
  lengths-fit =
      record {
        coefficients = length-list_of (2 * course.nodes * course.nodes) _ ∙ ap (λ (k : ℕ). k * course.nodes) (sym (fact-count course.nodes figures));
        multipliers = multiplier-count course figures side ∙ sym (fact-count course.nodes figures);
        potentials = length-list_of course.nodes _;
      }

  module _ (bits : SixteenBits figures) (few : course.nodes ≤ most_nodes) (cheap : (n : ℕ) → n < course.nodes → course.cost n ≤ 2 * 65535) where
    multipliers-small : sum_of (length (claim course figures side).certificate.multipliers) (multiplier course figures side) ≤ 2 * (course.nodes * (2 * 65535))
    multipliers-small =
        omega (
          arith,
          halves course figures side (multiplier course figures side),
          sum-most course.nodes (2 * 65535) (multiplier course figures side)
              (λ f h. omega (arith, ceiling-multiplier course figures side f h, gain-most side (course.cost f), cheap f h)),
          sum-most course.nodes (2 * 65535) (λ g. multiplier course figures side (course.nodes + g))
              (λ g h. omega (arith, floor-multiplier course figures side g h, loss-most side (course.cost g), cheap g h)),
        )

    numbers_fit : NumbersFit (claim course figures side).facts (claim course figures side).certificate
    numbers_fit =
        record {
          denominator_least = omega arith;
          denominator_most = omega arith;
          coefficients = λ i h. coefficient-fits i (omega (arith, length-list_of (2 * course.nodes * course.nodes) coefficient));
          limits = λ f h. limit-fits f (omega (arith, fact-count course.nodes figures));
          multipliers = λ f h.
              let is = multiplier-is course figures side f (omega (arith, multiplier-count course figures side)) in
              is ∙ multiplier-sign side course.nodes course.cost f ∙ ap (λ (z : ℤ). pos (nat_abs z)) (sym is);
          multipliers_most = omega (arith, multipliers-small);
          potentials = λ n h. omega (arith, ap nat_abs (no-potential course figures side n));
        }
      where
        coefficient-fits : (i : ℕ) → i < 2 * course.nodes * course.nodes → nat_abs (get_or (visit_facts course.nodes figures).coefficients i (pos 0)) ≤ 2 ^ 24
        coefficient-fits i h =
            let is = get_or-list_of (2 * course.nodes * course.nodes) coefficient (pos 0) i h in
            omega (arith, ap nat_abs is, coefficient-small (eqb (i / course.nodes) (i % course.nodes)) (eqb (i / course.nodes) (course.nodes + i % course.nodes)))

        limit-fits : (f : ℕ) → f < 2 * course.nodes → nat_abs (get_or (visit_facts course.nodes figures).limits f (pos 0)) ≤ 2 ^ 24
        limit-fits f h =
            let ceiling = bits.ceilings f in
            let floor = bits.floors (f - course.nodes) in
            let small = limit-small (ltb f course.nodes) (get_or figures.ceilings f 0) (get_or figures.floors (f - course.nodes) 0) 65535 (omega arith) (omega arith) in
            omega (arith, ap nat_abs (limit_is course.nodes figures f h))

-- ---- where there are totals

module _ (bytes : List ℕ) (chart : Chart) (table : Lent) (figures : Figures) (read : read_chart bytes ≡ accepted chart) (bits : SixteenBits figures)
    (summable : Summable chart table figures) where
  abbrev plan : Plan
  plan = plan_of chart

  abbrev cells : List (Cell Ages)
  cells = table_of (plan_of chart) table

  abbrev course_for : Side → Course
  course_for side = course_of (plan_of chart) table side figures.costs

  abbrev claim_for : Side → Claim
  claim_for side = claim (course_for side) figures side

  rate-most : (side : Side) (class : ℕ) → side_rate side figures.costs class ≤ 65535
  rate-most High class = high-rate-most figures.costs (omega (arith, bits.hit)) (omega (arith, bits.miss)) class
  rate-most Low class = low-rate-most figures.costs (omega (arith, bits.hit)) (omega (arith, bits.miss)) class

  holds-for : (side : Side) (n : ℕ) → n < chart.header.nodes → HoldsAt chart table (claim_for side) n
  holds-for side n h =
      record {
        start = λ e. let here = no-potential (course_for side) figures side n in omega (arith, left-nothing (course_for side) figures side n h, ap above here, ap below here);
        arrow = λ marked t among. arrow t (arrow-inside bytes chart read n t h among);
      }
    where
      arrow : (t : ℕ) → t < chart.header.nodes
          → above (potential (claim_for side) n) + rise (claim_for side) t + below (potential (claim_for side) t)
          ≤ above (potential (claim_for side) t) + below (potential (claim_for side) n) + fall (claim_for side) t
      arrow t inside =
          let here = no-potential (course_for side) figures side n in
          let there = no-potential (course_for side) figures side t in
          omega (arith, left-nothing (course_for side) figures side t inside, ap above here, ap below here, ap above there, ap below there)

  boundable : (side : Side) → Boundable chart table (visit_question plan table figures side)
  boundable side =
      record {
        passing = summable.passing;
        costs = summable.figures_fit.costs;
        lengths = lengths-fit (course_for side) figures side;
        numbers = numbers_fit (course_for side) figures side bits (accepted-nodes bytes chart read)
            (λ n h. visit-most chart n h (side_rate side figures.costs) (rate-most side) (cell_at cells n));
        holds = holds-for side;
      }

  -- The blocks that are charged for are the same.
  loads-are : loads_of plan table (visit_question plan table figures High) ≡ kept_charge plan cells figures
  unfolding kept_charge
  loads-are =
      ap (λ (k : ℕ). (figures.costs.miss - figures.costs.hit) * k)
      (sum-equal plan.blocks _ _
      (λ block h. ap (λ (t : Bool). cond t 1 0)
      (any_same chart.header.nodes _ _ (λ n inside i. opened chart.header.nodes figures n inside i && keeps_at plan block n (cell_at cells n)))))

  pub high-recovered : bounded bytes table (visit_question plan table figures High) ≡ Ok (high_total plan cells figures)
  unfolding total_by
  high-recovered =
      (bound-refusals bytes chart table (visit_question plan table figures High) read).bound (boundable High)
      ∙ (λ i. Ok (ceilings-bound (course_for High) figures i + loads-are i))

  pub low-recovered : bounded bytes table (visit_question plan table figures Low) ≡ Ok (low_total plan cells figures)
  unfolding total_by
  low-recovered =
      (bound-refusals bytes chart table (visit_question plan table figures Low) read).bound (boundable Low)
      ∙ (λ i. Ok (floors-bound (course_for Low) figures i))
