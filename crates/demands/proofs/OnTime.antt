-- A deadline that is met is kept by every walk within the bounds: its cost lies between the totals, and rounding keeps the order.
use Rattle.std.specs.Prelude.{Result}
use Prim.Native.Nat.{ℕ, ◌^◌, ◌≤◌, ◌<◌}
use mathlib.Core.Bool.{true≢false}
use mathlib.Core.List.{List}
use mathlib.Core.Path.{◌≡◌, refl, sym, subst, ◌∙◌}
use native.Mathlib.Omega.{arith}
use lib.Dec.{T}
use lib.Ieee.{Float, binary64, le}
use lib.Ieee.Scale.{finite}
use Rattle.chart.specs.Chart.{Chart}
use Rattle.clock.specs.declared.ClockSheet.{ClockSheet}
use Rattle.clock.specs.declared.Deadline.{Deadline}
use Rattle.clock.specs.Clock.{figure_of}
use Rattle.clock.specs.Laws.{NoSign, Limited, KeepsTo}
use Rattle.clock.proofs.Rounded.{whole_is}
use Rattle.clock.proofs.Fitting.{between-keeps, both_meet, met_finite}
use Rattle.clock.proofs.Rising.{figure-no-sign, figure-rounded, figure-rises}
use Rattle.clock.proofs.Exact.{product-exact, figure-exact, keeps-exactly, exactly-keeps}
use Rattle.machine.specs.Machine.{Contents}
use Rattle.costs.specs.Costs.{Figures}
use Rattle.tables.specs.Lent.{Lent}
use Rattle.deadline.specs.Deadline.{low_figure, high_figure, judged, judged_say}
use Rattle.deadline.specs.Widths.{SixteenBits}
use Rattle.deadline.proofs.Below.{totals_below}
use Rattle.demands.specs.OnTime.{JudgedWalk, cost_along, OnTime}
use Rattle.demands.proofs.Demand3.{demand3}
use Rattle.demands.proofs.Judging.{Verdict, verdict-of, met-number}
use Rattle.deadline.specs.declared.Judged.{Judged}
use Rattle.refusals.specs.declared.Refusal.{Refusal}
use Rattle.totals.specs.Totals.{totals_between}

module _ (bytes : List ℕ) (chart : Chart) (table : Lent) (figures : Figures) (contents : Contents chart) (ts : List ℕ) (sheet : ClockSheet) (deadline : Deadline) (answer : Result Judged Refusal)
    (walk : JudgedWalk bytes chart table figures contents ts sheet deadline answer) (given : (judged_say answer).number ≡ 0) where
  abbrev cost : ℕ
  cost = cost_along chart figures ts contents

  told : Verdict bytes table figures sheet deadline answer
  told = verdict-of bytes table figures sheet deadline answer walk.answered given

  below : (told.low < 2 ^ 53) × (told.high < 2 ^ 53)
  below = totals_below bytes table figures told.low told.high (sym told.sums) walk.sixteen_bits

  between : (told.low ≤ cost) × (cost ≤ told.high)
  between =
      let costs = demand3.given_between bytes chart table figures contents ts (totals_between told.low told.high) walk.on_walk walk.within (sym told.sums) refl in
      (costs.no_less, costs.no-more)

  least : T (le (figure_of sheet told.low) (figure_of sheet cost))
  least = figure-rises sheet deadline told.fit told.low cost between.0 (omega (arith, between.1, below.1))

  most : T (le (figure_of sheet cost) (figure_of sheet told.high))
  most = figure-rises sheet deadline told.fit cost told.high between.1 below.1

  figures-between : T (le (low_figure answer) (figure_of sheet cost)) × T (le (figure_of sheet cost) (high_figure answer))
  figures-between = (
    subst (λ (low : Float). T (le low (figure_of sheet cost))) (sym told.low-is) least,
    subst (λ (high : Float). T (le (figure_of sheet cost) high)) (sym told.high_is) most,
  )

  kept : (judged_say answer).met ≡ 1 → KeepsTo deadline (figure_of sheet cost)
  kept met =
      between-keeps deadline (figure_of sheet told.low) (figure_of sheet cost) (figure_of sheet told.high) told.fit.limits
      (figure-no-sign sheet deadline told.fit told.low below.0)
      (figure-no-sign sheet deadline told.fit cost (omega (arith, between.1, below.1)))
      (figure-no-sign sheet deadline told.fit told.high below.1)
      least most (told.met met)

  cost-below : cost < 2 ^ 53
  cost-below = omega (arith, between.1, below.1)

-- ---- of an answer, whatever walks there are

module _ (bytes : List ℕ) (table : Lent) (figures : Figures) (sheet : ClockSheet) (deadline : Deadline) (answer : Result Judged Refusal)
    (answered : answer ≡ judged bytes table figures sheet deadline) (given : (judged_say answer).number ≡ 0) where
  shown : Verdict bytes table figures sheet deadline answer
  shown = verdict-of bytes table figures sheet deadline answer answered given

  module _ (bits : SixteenBits figures) where
    sums-below : (shown.low < 2 ^ 53) × (shown.high < 2 ^ 53)
    sums-below = totals_below bytes table figures shown.low shown.high (sym shown.sums) bits

    both-no-sign : NoSign (low_figure answer) × NoSign (high_figure answer)
    both-no-sign = (
      subst NoSign (sym shown.low-is) (figure-no-sign sheet deadline shown.fit shown.low sums-below.0),
      subst NoSign (sym shown.high_is) (figure-no-sign sheet deadline shown.fit shown.high sums-below.1),
    )

    high-finite : Limited deadline → (judged_say answer).met ≡ 1 → T (finite (high_figure answer))
    high-finite limited met =
        subst (λ (high : Float). T (finite high)) (sym shown.high_is)
        (met_finite deadline (figure_of sheet shown.low) (figure_of sheet shown.high) shown.fit.limits limited
        (figure-no-sign sheet deadline shown.fit shown.high sums-below.1) (shown.met met))

  one-broken : (judged_say answer).met ≡ 0 → KeepsTo deadline (low_figure answer) → KeepsTo deadline (high_figure answer) → ⊥
  one-broken not k l =
      true≢false (sym (both_meet deadline (figure_of sheet shown.low) (figure_of sheet shown.high)
      (subst (KeepsTo deadline) shown.low-is k) (subst (KeepsTo deadline) shown.high_is l)) ∙ shown.not_met not)

pub on-time : OnTime
on-time =
    record {
      totals_below = λ bytes table figures low high bits e. totals_below bytes table figures low high (sym e) bits;
      whole = λ n h. whole_is binary64 n (omega arith);
      no_sign = λ sheet deadline total fit h. figure-no-sign sheet deadline fit total h;
      answered_no_sign = λ bytes table figures sheet deadline answer bits answered given. both-no-sign bytes table figures sheet deadline answer answered given bits;
      met_finite = λ bytes table figures sheet deadline answer bits answered limited met. high-finite bytes table figures sheet deadline answer answered (met-number answer met) bits limited met;
      rounded = λ sheet deadline total fit h. figure-rounded sheet deadline fit total h;
      rises = λ sheet deadline low high fit h k. figure-rises sheet deadline fit low high h k;
      exact_product = λ period j total most value h. product-exact binary64 total j period h (omega arith) value;
      exact = figure-exact;
      cost_between = λ bytes chart table figures contents ts sheet deadline answer walk given. figures-between bytes chart table figures contents ts sheet deadline answer walk given;
      met_kept = λ bytes chart table figures contents ts sheet deadline answer walk met. kept bytes chart table figures contents ts sheet deadline answer walk (met-number answer met) met;
      not_met_broken = λ bytes table figures sheet deadline answer answered given not k l. one-broken bytes table figures sheet deadline answer answered given not k l;
      exactly_kept = λ sheet deadline j total fit exact h k. exactly-keeps deadline (figure_of sheet total) total j fit.limits (figure-exact sheet j total exact h) k;
      met_exactly = λ bytes chart table figures contents ts sheet deadline answer j walk met exact.
          let given = met-number answer met in
          keeps-exactly deadline (figure_of sheet (cost_along chart figures ts contents)) (cost_along chart figures ts contents) j
          (told bytes chart table figures contents ts sheet deadline answer walk given).fit.limits
          (figure-exact sheet j (cost_along chart figures ts contents) exact (cost-below bytes chart table figures contents ts sheet deadline answer walk given))
          (kept bytes chart table figures contents ts sheet deadline answer walk given met);
    }
