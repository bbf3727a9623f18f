-- What a caller in another language gives for a deadline, and what it is told. Rules 11.18, 12.8, 12.9 and 17.6: a clock sheet is two numbers, a
-- deadline a kind and two limits, of which those that its kind has not are not looked at; and the two figures are told in a list of their own.
use Rattle.std.specs.Prelude.{ℕ, Bool, false, cond, ◌||◌, List, [], ◌∷◌, pos, eqb, Float, Result}
use Rattle.std.specs.Float.{fin}
use Rattle.lists.specs.Lists.{written}
use Rattle.clock.specs.declared.ClockSheet.{ClockSheet}
use Rattle.clock.specs.declared.Deadline.{Deadline}
use Rattle.clock.specs.declared.Deadline.TheVariants.{None, Latest, Window}
use Rattle.clock.specs.Clock.{zero_time}
use Rattle.deadline.specs.Deadline.{JudgedSaid, low_figure, high_figure}
use Rattle.boundary.specs.Told.{short}
use Rattle.deadline.specs.declared.Judged.{Judged}
use Rattle.refusals.specs.declared.Refusal.{Refusal}

-- Rule 17.6: the clock sheet of two numbers.
abbrev pub sheet_given : Float → Float → ClockSheet
sheet_given period overhead = record { period = period; overhead = overhead }

-- A window from 1 to 0, to which rule 11.18 applies whatever the clock sheet is.
abbrev pub wrong_way_round : Deadline
wrong_way_round = Window (fin false 1 (pos 0)) zero_time

-- Rules 11.18 and 17.6: the deadline of a kind and two limits. Another kind is refusal 18, in its turn.
abbrev pub deadline_given : ℕ → Float → Float → Deadline
deadline_given kind earliest latest =
    cond (eqb kind 0) None (cond (eqb kind 1) (Latest latest) (cond (eqb kind 2) (Window earliest latest) wrong_way_round))

-- Rule 12.9: number and place, and then 1 where the deadline is met.
abbrev pub judged_numbers : JudgedSaid → List ℕ
judged_numbers said = said.number ∷ said.place ∷ said.met ∷ []

-- Rules 12.8 and 17.6: a lent list with the low and the high figure told in it. Of a tail it says which floats stay, and all NaNs are one there:
-- that they keep their bits is tried.
abbrev pub figures_told : Result Judged Refusal → List Float → List Float
figures_told judged lent = written (low_figure judged ∷ high_figure judged ∷ []) lent

-- Rules 12.9 and 17.6: whether the list for the figures or that for the answer is too short. Then nothing is told, no figures of 0 either.
abbrev pub judged_short : List Float → List ℕ → Bool
judged_short figures answer = short figures 2 || short answer 3
