-- Of demand 1: what is answered for a deadline. Rules 11.18, 12.8, 17.4 and 17.5: the refusals of the totals go first, then 18 exactly where the
-- times do not fit, and else there are a verdict and two figures.
use Rattle.std.specs.Prelude.{ℕ, ◌≤◌, true, false, List, ◌⊎◌, ◌≡◌, Err}
use Rattle.refusals.specs.declared.Refusal.{Refusal}
use Rattle.refusals.specs.declared.Refusal.TheVariants.{ImpossibleTimes}
use Rattle.refusals.specs.Refusals.{number_of, place_of}
use Rattle.clock.specs.declared.ClockSheet.{ClockSheet}
use Rattle.clock.specs.declared.Deadline.{Deadline}
use Rattle.clock.specs.Clock.{figure_of, bits_of, meets}
use Rattle.clock.specs.Laws.{TimesFit}
use Rattle.costs.specs.Costs.{Figures}
use Rattle.tables.specs.Lent.{Lent}
use Rattle.totals.specs.Totals.{totals, totals_between}
use Rattle.deadline.specs.Deadline.{judged, judge_says, low_figure, high_figure, judged_with}

pub record JudgedRefusals (bytes : List ℕ) (table : Lent) (figures : Figures) (sheet : ClockSheet) (deadline : Deadline) : Type 0 where
  -- rule 17.5: what the totals refuse is refused, whatever the times are
  pub totals_first : (refusal : Refusal) → totals bytes table figures ≡ Err refusal → judged bytes table figures sheet deadline ≡ Err refusal
  -- rule 11.18: where there are totals, 18 is given exactly if the times do not fit
  pub times_next : (low high : ℕ)
      → totals bytes table figures ≡ totals_between low high
      → (TimesFit sheet deadline → ⊥)
      → judged bytes table figures sheet deadline ≡ Err ImpossibleTimes
  pub met : (low high : ℕ)
      → totals bytes table figures ≡ totals_between low high
      → TimesFit sheet deadline
      → meets deadline (figure_of sheet low) (figure_of sheet high) ≡ true
      → judged bytes table figures sheet deadline ≡ judged_with true (figure_of sheet low) (figure_of sheet high)
  pub not_met : (low high : ℕ)
      → totals bytes table figures ≡ totals_between low high
      → TimesFit sheet deadline
      → meets deadline (figure_of sheet low) (figure_of sheet high) ≡ false
      → judged bytes table figures sheet deadline ≡ judged_with false (figure_of sheet low) (figure_of sheet high)
  -- the other way round: what is refused was refused by the totals, or there are totals and the times do not fit; and else they fit
  pub only : (refusal : Refusal)
      → judged bytes table figures sheet deadline ≡ Err refusal
      → (totals bytes table figures ≡ Err refusal) ⊎ ((refusal ≡ ImpossibleTimes) × (TimesFit sheet deadline → ⊥))
  pub only_fit : (judge_says bytes table figures sheet deadline).number ≡ 0 → TimesFit sheet deadline
  -- rule 17.5: which numbers there are
  pub numbers : ((judge_says bytes table figures sheet deadline).number ≤ 18) × ((judge_says bytes table figures sheet deadline).number ≡ 12 → ⊥)
  -- the bits that are told are those of the figures
  pub figures_said : ((judge_says bytes table figures sheet deadline).low ≡ bits_of (low_figure (judged bytes table figures sheet deadline)))
      × ((judge_says bytes table figures sheet deadline).high ≡ bits_of (high_figure (judged bytes table figures sheet deadline)))
  -- rule 12.8: any refusal comes with figures of 0, and is not met
  pub refusal_said : (refusal : Refusal)
      → judged bytes table figures sheet deadline ≡ Err refusal
      → judge_says bytes table figures sheet deadline ≡ record { number = number_of refusal; place = place_of refusal; met = 0; low = 0; high = 0 }
