-- Whether a deadline is met, for any bytes, lent table, costs, floors, ceilings, clock sheet and deadline. Rules 11.18, 12.8, 17.4 and
-- 17.5; figures and verdict are those of `clock`, the two totals and refusals 1 to 11 and 13 to 17 those of `totals`.
use Rattle.std.specs.Prelude.{ℕ, Bool, true, false, cond, List, Float, Result, Ok, Err}
use Rattle.refusals.specs.declared.Refusal.{Refusal}
use Rattle.refusals.specs.declared.Refusal.TheVariants.{ImpossibleTimes}
use Rattle.refusals.specs.Refusals.{number_of, place_of}
use Rattle.clock.specs.declared.ClockSheet.{ClockSheet}
use Rattle.clock.specs.declared.Deadline.{Deadline}
use Rattle.clock.specs.Clock.{zero_time, figure_of, bits_of, impossible, meets}
use Rattle.tables.specs.Lent.{Lent}
use Rattle.costs.specs.Costs.{Figures}
use Rattle.totals.specs.declared.Totals.{Totals}
use Rattle.totals.specs.Totals.{totals}
use Rattle.deadline.specs.declared.Judged.{Judged}
use Rattle.deadline.specs.declared.Judged.TheVariants.{Met, NotMet}

-- Whether a deadline is met, with both figures, answered.
abbrev pub judged_with : Bool → Float → Float → Result Judged Refusal
judged_with true low high = Ok (Met low high)
judged_with false low high = Ok (NotMet low high)

-- Rule 17.4: the verdict on two figures, with them.
abbrev pub verdict_on : Deadline → Float → Float → Result Judged Refusal
verdict_on deadline low high = judged_with (meets deadline low high) low high

-- Rules 11.18 and 17.4, of two totals.
unfoldable pub judged_by : ClockSheet → Deadline → ℕ → ℕ → Result Judged Refusal
judged_by sheet deadline low high =
    cond (impossible sheet deadline) (Err ImpossibleTimes) (verdict_on deadline (figure_of sheet low) (figure_of sheet high))

-- Rule 17.5, of what the totals answer: their refusals go before 18.
abbrev pub judged_totals : ClockSheet → Deadline → Result Totals Refusal → Result Judged Refusal
judged_totals sheet deadline (Ok sums) = judged_by sheet deadline sums.low sums.high
judged_totals sheet deadline (Err refusal) = Err refusal

-- Rule 17.5, of any bytes.
unfoldable pub judged : List ℕ → Lent → Figures → ClockSheet → Deadline → Result Judged Refusal
judged bytes lent figures sheet deadline = judged_totals sheet deadline (totals bytes lent figures)

-- Rules 12.8 and 17.5: the low figure of an answer, which is 0 after a refusal.
abbrev pub low_figure : Result Judged Refusal → Float
low_figure (Ok (Met low high)) = low
low_figure (Ok (NotMet low high)) = low
low_figure (Err refusal) = zero_time

-- Rules 12.8 and 17.5, of the high one.
abbrev pub high_figure : Result Judged Refusal → Float
high_figure (Ok (Met low high)) = high
high_figure (Ok (NotMet low high)) = high
high_figure (Err refusal) = zero_time

-- The answer in numbers: number and place, both 0 for no refusal, 1 where the deadline is met, and the bits of the two figures.
pub record JudgedSaid : Type 0 where
  pub number : ℕ
  pub place : ℕ
  pub met : ℕ
  pub low : ℕ
  pub high : ℕ

-- Rules 12.8 and 17.5: the verdict and the figures' bits, or a refusal's number and place, not met, and figures of 0.
abbrev pub judged_say : Result Judged Refusal → JudgedSaid
judged_say (Ok (Met low high)) = record { number = 0; place = 0; met = 1; low = bits_of low; high = bits_of high }
judged_say (Ok (NotMet low high)) = record { number = 0; place = 0; met = 0; low = bits_of low; high = bits_of high }
judged_say (Err refusal) = record { number = number_of refusal; place = place_of refusal; met = 0; low = 0; high = 0 }

-- The same of any bytes.
abbrev pub judge_says : List ℕ → Lent → Figures → ClockSheet → Deadline → JudgedSaid
judge_says bytes lent figures sheet deadline = judged_say (judged bytes lent figures sheet deadline)
