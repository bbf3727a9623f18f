-- What a deadline that is met says of walks: the cost of every walk within the bounds, as a figure that is worked out in the same way, keeps to the
-- deadline. Rules 5.1 to 5.3, 10.1 and 17.1 to 17.5. `on-time` in proofs/OnTime.antt proves it. A figure is a rounded number: that of the cost is
-- spoken of, and not cost times period plus overhead without rounding, which can lie a little beside it. Where nothing is rounded (`exact`) the two
-- are one and the same, and `met_exactly` speaks of the true time.
use Rattle.std.specs.Prelude.{ℕ, ◌^◌, ◌≤◌, ◌<◌, false, List, ◌≡◌, pos, T, Float, Result}
use Rattle.std.specs.Float.{binary64}
use Rattle.std.specs.Float.Ieee.{of_int, mul, le}
use Rattle.std.specs.Float.Ieee.Exact.{HasValue}
use Rattle.std.specs.Float.Ieee.Scale.{finite}
use Rattle.chart.specs.Chart.{Chart}
use Rattle.clock.specs.declared.ClockSheet.{ClockSheet}
use Rattle.clock.specs.declared.Deadline.{Deadline}
use Rattle.clock.specs.Clock.{figure_of}
use Rattle.clock.specs.Laws.{NoSign, TimesFit, Limited, twice_rounded, KeepsTo, ExactSheet, KeepsExactly}
use Rattle.machine.specs.Machine.{Contents, cost_of}
use Rattle.costs.specs.Costs.{Figures}
use Rattle.tables.specs.Lent.{Lent}
use Rattle.totals.specs.Totals.{totals, totals_between}
use Rattle.deadline.specs.Deadline.{low_figure, high_figure, judged, judged_say}
use Rattle.deadline.specs.Widths.{SixteenBits}
use Rattle.demands.specs.Demand3.{OnWalk, VisitsWithin}
use Rattle.deadline.specs.declared.Judged.{Judged}
use Rattle.refusals.specs.declared.Refusal.{Refusal}

-- A walk within the bounds, and what is answered for a deadline.
pub record JudgedWalk (bytes : List ℕ) (chart : Chart) (table : Lent) (figures : Figures) (contents : Contents chart) (ts : List ℕ) (sheet : ClockSheet) (deadline : Deadline) (answer : Result Judged Refusal) : Type 0 where
  pub on_walk : OnWalk bytes chart contents ts
  pub within : VisitsWithin chart figures ts
  pub sixteen_bits : SixteenBits figures
  pub answered : answer ≡ judged bytes table figures sheet deadline

-- What the plain machine pays on the walk.
abbrev pub cost_along : (chart : Chart) → Figures → List ℕ → Contents chart → ℕ
cost_along chart figures ts contents = cost_of chart figures.costs.hit figures.costs.miss ts contents

pub record OnTime : Type 0 where
  -- rule 17.3: the totals of costs, floors and ceilings of 16 bits are below 2 ^ 53, and a number below that is a float exactly
  pub totals_below : (bytes : List ℕ) (table : Lent) (figures : Figures) (low high : ℕ)
      → SixteenBits figures
      → totals bytes table figures ≡ totals_between low high
      → (low < 2 ^ 53) × (high < 2 ^ 53)
  pub whole : (n : ℕ) → n < 2 ^ 53 → HasValue (of_int binary64 (pos n)) false n 1
  -- a figure is a number or the infinity, and has no sign; so are those that are answered, whose bits are then their own
  pub no_sign : (sheet : ClockSheet) (deadline : Deadline) (total : ℕ) → TimesFit sheet deadline → total < 2 ^ 53 → NoSign (figure_of sheet total)
  pub answered_no_sign : (bytes : List ℕ) (table : Lent) (figures : Figures) (sheet : ClockSheet) (deadline : Deadline) (answer : Result Judged Refusal)
      → SixteenBits figures
      → answer ≡ judged bytes table figures sheet deadline
      → (judged_say answer).number ≡ 0
      → NoSign (low_figure answer) × NoSign (high_figure answer)
  -- rule 17.4: an infinite figure meets no latest time
  pub met_finite : (bytes : List ℕ) (table : Lent) (figures : Figures) (sheet : ClockSheet) (deadline : Deadline) (answer : Result Judged Refusal)
      → SixteenBits figures
      → answer ≡ judged bytes table figures sheet deadline
      → Limited deadline
      → (judged_say answer).met ≡ 1
      → T (finite (high_figure answer))
  -- it is rounded twice, and no more
  pub rounded : (sheet : ClockSheet) (deadline : Deadline) (total : ℕ) → TimesFit sheet deadline → total < 2 ^ 53 → figure_of sheet total ≡ twice_rounded sheet total
  -- rounding keeps the order: the figure of a larger total is no smaller
  pub rises : (sheet : ClockSheet) (deadline : Deadline) (low high : ℕ)
      → TimesFit sheet deadline
      → low ≤ high
      → high < 2 ^ 53
      → T (le (figure_of sheet low) (figure_of sheet high))
  -- rule 17.3: for a power of two the product is total times period, exactly, and with an overhead of 0 so is the figure
  pub exact_product : (period : Float) (j total : ℕ)
      → j ≤ 30
      → HasValue period false 1 (2 ^ j)
      → total < 2 ^ 53
      → HasValue (mul binary64 (of_int binary64 (pos total)) period) false total (2 ^ j)
  pub exact : (sheet : ClockSheet) (j total : ℕ) → ExactSheet sheet j → total < 2 ^ 53 → HasValue (figure_of sheet total) false total (2 ^ j)
  -- wherever figures are given, the cost's lies between them
  pub cost_between : (bytes : List ℕ) (chart : Chart) (table : Lent) (figures : Figures) (contents : Contents chart) (ts : List ℕ) (sheet : ClockSheet) (deadline : Deadline) (answer : Result Judged Refusal)
      → JudgedWalk bytes chart table figures contents ts sheet deadline answer
      → (judged_say answer).number ≡ 0
      → T (le (low_figure answer) (figure_of sheet (cost_along chart figures ts contents))) × T (le (figure_of sheet (cost_along chart figures ts contents)) (high_figure answer))
  -- and where the deadline is met, the cost's keeps to it
  pub met_kept : (bytes : List ℕ) (chart : Chart) (table : Lent) (figures : Figures) (contents : Contents chart) (ts : List ℕ) (sheet : ClockSheet) (deadline : Deadline) (answer : Result Judged Refusal)
      → JudgedWalk bytes chart table figures contents ts sheet deadline answer
      → (judged_say answer).met ≡ 1
      → KeepsTo deadline (figure_of sheet (cost_along chart figures ts contents))
  -- what is not met is so: one of the two figures does not keep to it
  pub not_met_broken : (bytes : List ℕ) (table : Lent) (figures : Figures) (sheet : ClockSheet) (deadline : Deadline) (answer : Result Judged Refusal)
      → answer ≡ judged bytes table figures sheet deadline
      → (judged_say answer).number ≡ 0
      → (judged_say answer).met ≡ 0
      → KeepsTo deadline (low_figure answer)
      → KeepsTo deadline (high_figure answer)
      → ⊥
  -- where nothing is rounded, the figure of a total whose true time keeps to a deadline keeps to it too
  pub exactly_kept : (sheet : ClockSheet) (deadline : Deadline) (j total : ℕ)
      → TimesFit sheet deadline
      → ExactSheet sheet j
      → total < 2 ^ 53
      → KeepsExactly deadline total j
      → KeepsTo deadline (figure_of sheet total)
  -- without rounding: the true time, cost times 2 ^ -j, keeps to it
  pub met_exactly : (bytes : List ℕ) (chart : Chart) (table : Lent) (figures : Figures) (contents : Contents chart) (ts : List ℕ) (sheet : ClockSheet) (deadline : Deadline) (answer : Result Judged Refusal) (j : ℕ)
      → JudgedWalk bytes chart table figures contents ts sheet deadline answer
      → (judged_say answer).met ≡ 1
      → ExactSheet sheet j
      → KeepsExactly deadline (cost_along chart figures ts contents) j
