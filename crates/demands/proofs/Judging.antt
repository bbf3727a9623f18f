-- Of demand 1: what is answered for a deadline, by what the totals answer, by the times, and by the figures.
use Rattle.std.specs.Prelude.{Ok, Err, Result}
use Prim.Native.Nat.{ℕ, ◌≤◌}
use mathlib.Core.Bool.{Bool, true, false, cond, true≢false}
use mathlib.Core.Logic.{◌⊎◌, inl, inr}
use mathlib.Core.List.{List}
use mathlib.Core.Path.{◌≡◌, refl, sym, ap, subst, ◌∙◌}
use native.Mathlib.Omega.{arith}
use lib.Ieee.{Float, to_bits}
use Rattle.refusals.specs.declared.Refusal.{Refusal}
use Rattle.refusals.specs.declared.Refusal.TheVariants.{ImpossibleTimes}
use Rattle.refusals.proofs.Numbers.{number-positive}
use Rattle.clock.specs.declared.ClockSheet.{ClockSheet}
use Rattle.clock.specs.declared.Deadline.{Deadline}
use Rattle.clock.specs.Clock.{figure_of, bits_of, impossible, meets}
use Rattle.clock.specs.Laws.{TimesFit}
use Rattle.clock.proofs.Fitting.{times-fit, fit-times}
use Rattle.chart.specs.Chart.{Chart, accepted, read_chart}
use Rattle.ages.specs.Charted.{plan_of}
use Rattle.costs.specs.Costs.{Figures}
use Rattle.tables.specs.Lent.{Lent, SameUsed}
use Rattle.totals.specs.Totals.{totals, totals_say, totals_between}
use Rattle.deadline.specs.Deadline.{verdict_on, judged_by, judged_totals, judged, judged_say, low_figure, high_figure, judged_with}
use Rattle.demands.specs.Judging.{JudgedRefusals}
use Rattle.demands.proofs.Totalling.{totals-numbers, totals_used}
use Rattle.deadline.specs.declared.Judged.{Judged}
use Rattle.deadline.specs.declared.Judged.TheVariants.{Met, NotMet}
use Rattle.totals.specs.declared.Totals.{Totals}

module _ (bytes : List ℕ) (table : Lent) (figures : Figures) (sheet : ClockSheet) (deadline : Deadline) where
  abbrev answer : Result Judged Refusal
  answer = judged bytes table figures sheet deadline

  answered : (given : Result Totals Refusal) → totals bytes table figures ≡ given → answer ≡ judged_totals sheet deadline given
  unfolding judged
  answered given e = ap (judged_totals sheet deadline) e

  -- ---- of two totals

  module _ (low high : ℕ) (sums : totals bytes table figures ≡ totals_between low high) where
    abbrev least : Float
    least = figure_of sheet low

    abbrev most : Float
    most = figure_of sheet high

    pub by-times : (unfit : Bool) → impossible sheet deadline ≡ unfit → answer ≡ cond unfit (Err ImpossibleTimes) (verdict_on deadline least most)
    unfolding judged_by
    by-times unfit e = answered (totals_between low high) sums ∙ ap (λ (t : Bool). cond t (Err ImpossibleTimes) (verdict_on deadline least most)) e

    pub by-figures : TimesFit sheet deadline → (met : Bool) → meets deadline least most ≡ met → answer ≡ judged_with met least most
    by-figures fit met e = by-times false (fit-times sheet deadline fit) ∙ ap (λ (t : Bool). judged_with t least most) e

  unfit-refused : (low high : ℕ) → totals bytes table figures ≡ totals_between low high → (TimesFit sheet deadline → ⊥) → answer ≡ Err ImpossibleTimes
  unfit-refused low high sums none = go (impossible sheet deadline) refl
    where
      go : (unfit : Bool) → impossible sheet deadline ≡ unfit → answer ≡ Err ImpossibleTimes
      go true e = by-times low high sums true e
      go false e = absurd (none (times-fit sheet deadline e))

  -- ---- numbers

  abbrev Used : Result Judged Refusal → Type 0
  Used given = ((judged_say given).number ≤ 18) × ((judged_say given).number ≡ 12 → ⊥)

  used-verdict : (unfit met : Bool) (low high : Float) → Used (cond unfit (Err ImpossibleTimes) (judged_with met low high))
  used-verdict true met low high = (omega arith, λ q. omega arith)
  used-verdict false true low high = (omega arith, λ q. omega arith)
  used-verdict false false low high = (omega arith, λ q. omega arith)

  used-numbers : Used answer
  used-numbers = go (totals bytes table figures) refl
    where
      go : (given : Result Totals Refusal) → totals bytes table figures ≡ given → Used answer
      go (Ok sums) e =
          let low : ℕ = sums.low in
          let high : ℕ = sums.high in
          subst Used (sym (by-times low high e (impossible sheet deadline) refl)) (used-verdict (impossible sheet deadline) (meets deadline (figure_of sheet low) (figure_of sheet high)) (figure_of sheet low) (figure_of sheet high))
      go (Err refusal) e =
          let numbers = subst (λ (given : Result Totals Refusal). ((totals_say given).number ≤ 17) × ((totals_say given).number ≡ 12 → ⊥)) e (totals-numbers bytes table figures) in
          subst Used (sym (answered (Err refusal) e)) (omega (arith, numbers.0), numbers.1)

  -- ---- an answer that is no refusal

  -- There are totals, and the figures are theirs.
  pub record Verdict (given : Result Judged Refusal) : Type 0 where
    pub low : ℕ
    pub high : ℕ
    pub sums : totals bytes table figures ≡ totals_between low high
    pub fit : TimesFit sheet deadline
    pub low-is : low_figure given ≡ figure_of sheet low
    pub high_is : high_figure given ≡ figure_of sheet high
    pub met : (judged_say given).met ≡ 1 → meets deadline (figure_of sheet low) (figure_of sheet high) ≡ true
    pub not_met : (judged_say given).met ≡ 0 → meets deadline (figure_of sheet low) (figure_of sheet high) ≡ false

  verdict : (judged_say answer).number ≡ 0 → Verdict answer
  verdict none = go (totals bytes table figures) refl
    where
      go : (given : Result Totals Refusal) → totals bytes table figures ≡ given → Verdict answer
      go (Err refusal) e =
          let number = subst (λ (given : Result Judged Refusal). (judged_say given).number ≡ 0) (answered (Err refusal) e) none in
          absurd (omega (arith, number-positive refusal))
      go (Ok found) sums = by-time (impossible sheet deadline) refl
        where
          by-time : (unfit : Bool) → impossible sheet deadline ≡ unfit → Verdict answer
          by-time true e =
              let number = subst (λ (given : Result Judged Refusal). (judged_say given).number ≡ 0) (by-times found.low found.high sums true e) none in
              absurd (omega arith)
          by-time false e = by-figure (meets deadline (figure_of sheet found.low) (figure_of sheet found.high)) refl
            where
              by-figure : (met : Bool) → meets deadline (figure_of sheet found.low) (figure_of sheet found.high) ≡ met → Verdict answer
              by-figure met m =
                  subst Verdict (sym (by-figures found.low found.high sums (times-fit sheet deadline e) met m)) (at met m)
                where
                  at : (met : Bool) → meets deadline (figure_of sheet found.low) (figure_of sheet found.high) ≡ met → Verdict (judged_with met (figure_of sheet found.low) (figure_of sheet found.high))
                  at true m = record { low = found.low; high = found.high; sums = sums; fit = times-fit sheet deadline e; low-is = refl; high_is = refl; met = λ q. m; not_met = λ q. absurd (omega arith) }
                  at false m = record { low = found.low; high = found.high; sums = sums; fit = times-fit sheet deadline e; low-is = refl; high_is = refl; met = λ q. absurd (omega arith); not_met = λ q. m }

  pub verdict-of : (given : Result Judged Refusal) → given ≡ answer → (judged_say given).number ≡ 0 → Verdict given
  verdict-of given e none = subst Verdict (sym e) (verdict (subst (λ (g : Result Judged Refusal). (judged_say g).number ≡ 0) e none))

  -- ---- and the other way round

  refused-only : (refusal : Refusal) → answer ≡ Err refusal → (totals bytes table figures ≡ Err refusal) ⊎ ((refusal ≡ ImpossibleTimes) × (TimesFit sheet deadline → ⊥))
  refused-only refusal e = go (totals bytes table figures) refl
    where
      go : (given : Result Totals Refusal) → totals bytes table figures ≡ given → (totals bytes table figures ≡ Err refusal) ⊎ ((refusal ≡ ImpossibleTimes) × (TimesFit sheet deadline → ⊥))
      go (Err other) q =
          let same : Err other ≡ Err refusal = sym (answered (Err other) q) ∙ e in
          let is : other ≡ refusal = cc in
          inl (q ∙ ap Err is)
      go (Ok found) q = by-time (impossible sheet deadline) refl
        where
          by-time : (unfit : Bool) → impossible sheet deadline ≡ unfit → (totals bytes table figures ≡ Err refusal) ⊎ ((refusal ≡ ImpossibleTimes) × (TimesFit sheet deadline → ⊥))
          by-time true t =
              let same : Err ImpossibleTimes ≡ Err refusal = sym (by-times found.low found.high q true t) ∙ e in
              let is : ImpossibleTimes ≡ refusal = cc in
              inr (sym is, λ fit. true≢false (sym t ∙ fit-times sheet deadline fit))
          by-time false t = absurd (no-refusal (meets deadline (figure_of sheet found.low) (figure_of sheet found.high)) (sym (by-times found.low found.high q false t) ∙ e))
            where
              no-refusal : (met : Bool) → judged_with met (figure_of sheet found.low) (figure_of sheet found.high) ≡ Err refusal → ⊥
              no-refusal true r = let z : ◌≡◌ {A = ℕ} 0 1 = cc in omega arith
              no-refusal false r = let z : ◌≡◌ {A = ℕ} 0 1 = cc in omega arith

  bits-said : (given : Result Judged Refusal) → ((judged_say given).low ≡ bits_of (low_figure given)) × ((judged_say given).high ≡ bits_of (high_figure given))
  unfolding to_bits
  bits-said (Ok (Met low high)) = (refl, refl)
  bits-said (Ok (NotMet low high)) = (refl, refl)
  bits-said (Err refusal) = (refl, refl)

  pub judged-refusals : JudgedRefusals bytes table figures sheet deadline
  judged-refusals =
      record {
        totals_first = λ refusal e. answered (Err refusal) e;
        times_next = unfit-refused;
        met = λ low high sums fit e. by-figures low high sums fit true e;
        not_met = λ low high sums fit e. by-figures low high sums fit false e;
        only = refused-only;
        only_fit = λ none. (verdict none).fit;
        numbers = used-numbers;
        figures_said = bits-said answer;
        refusal_said = λ refusal e. ap judged_say e;
      }

-- What is met is no refusal.
pub met-number : (given : Result Judged Refusal) → (judged_say given).met ≡ 1 → (judged_say given).number ≡ 0
met-number (Ok (Met low high)) e = refl
met-number (Ok (NotMet low high)) e = refl
met-number (Err refusal) e = absurd (omega arith)

pub judged_used : (bytes : List ℕ) (chart : Chart) (one other : Lent) (figures : Figures) (sheet : ClockSheet) (deadline : Deadline) → read_chart bytes ≡ accepted chart → SameUsed (plan_of chart) one other
    → judged bytes one figures sheet deadline ≡ judged bytes other figures sheet deadline
unfolding judged
judged_used bytes chart one other figures sheet deadline read same = ap (judged_totals sheet deadline) (totals_used bytes chart one other figures read same)
