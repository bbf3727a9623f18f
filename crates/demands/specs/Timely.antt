-- What is answered for deadlines of charts that are written out: the loop, whose totals are 2 and 20, at 0.125 microseconds a cycle and an overhead
-- of 2, against limits at its figures of 2.25 and 4.5 and next to them, and with no overhead, where nothing is rounded; refusal 18, and beside it
-- refusals of the totals, which go first. Nothing here is a rule of the tool: it is what rules 11.0, 11.18 and 17.3 to 17.5 come to.
use Rattle.std.specs.Prelude.{ℕ, List, [], ◌∷◌, set, take}
use Rattle.lists.specs.Soundings.{Sounding, ◌reads◌}
use Rattle.clock.specs.declared.ClockSheet.{ClockSheet}
use Rattle.clock.specs.declared.Deadline.{Deadline}
use Rattle.clock.specs.declared.Deadline.TheVariants.{None}
use Rattle.clock.specs.Sounded.{zero, minus_zero, largest, infinity, nan_bits, eighth, two, two_and_half, sheet, latest, window}
use Rattle.tables.specs.Lent.{Lent}
use Rattle.costs.specs.Costs.{Figures}
use Rattle.deadline.specs.Deadline.{judge_says}
use Rattle.demands.specs.Charts.{loop_chart}
use Rattle.demands.specs.Soundings.{loop_figures}
use Rattle.demands.specs.Tabled.{loop_table, endless, endless_table, cut, younger, figures_with}

-- The number, the place, 1 where the deadline is met, and the bits of the two figures.
abbrev pub judging : List ℕ → Lent → Figures → ClockSheet → Deadline → List ℕ
judging bytes table figures clock deadline =
    (judge_says bytes table figures clock deadline).number
    ∷ (judge_says bytes table figures clock deadline).place
    ∷ (judge_says bytes table figures clock deadline).met
    ∷ (judge_says bytes table figures clock deadline).low
    ∷ (judge_says bytes table figures clock deadline).high
    ∷ []

-- 0.25.
abbrev pub quarter : ℕ
quarter = 0x3FD0000000000000

-- 2.25 with the number next above it, 4.5 with the one next below.
abbrev pub least : ℕ
least = 0x4002000000000000

abbrev pub above_least : ℕ
above_least = 0x4002000000000001

abbrev pub most : ℕ
most = 0x4012000000000000

abbrev pub below_most : ℕ
below_most = 0x4011FFFFFFFFFFFF

-- The loop at 0.125 and 2.
abbrev pub loop_by : Deadline → List ℕ
loop_by deadline = judging loop_chart loop_table loop_figures (sheet eighth two) deadline

abbrev pub timely : List Sounding
timely =
    -- none; a latest time at the high figure, and next below it; a window at both figures, and one that begins or ends next to them
    (loop_by None reads (0 ∷ 0 ∷ 1 ∷ least ∷ most ∷ []))
    ∷ (loop_by (latest most) reads (0 ∷ 0 ∷ 1 ∷ least ∷ most ∷ []))
    ∷ (loop_by (latest below_most) reads (0 ∷ 0 ∷ 0 ∷ least ∷ most ∷ []))
    ∷ (loop_by (window least most) reads (0 ∷ 0 ∷ 1 ∷ least ∷ most ∷ []))
    ∷ (loop_by (window above_least most) reads (0 ∷ 0 ∷ 0 ∷ least ∷ most ∷ []))
    ∷ (loop_by (window least below_most) reads (0 ∷ 0 ∷ 0 ∷ least ∷ most ∷ []))
    -- figures that are infinite: met by none, and by no latest time
    ∷ (judging loop_chart loop_table loop_figures (sheet largest zero) None reads (0 ∷ 0 ∷ 1 ∷ infinity ∷ infinity ∷ []))
    ∷ (judging loop_chart loop_table loop_figures (sheet largest zero) (latest largest) reads (0 ∷ 0 ∷ 0 ∷ infinity ∷ infinity ∷ []))
    -- 18, at 0: a period of either zero, an overhead that is no time, a limit that is none, a window the wrong way round
    ∷ (judging loop_chart loop_table loop_figures (sheet zero two) None reads (18 ∷ 0 ∷ 0 ∷ 0 ∷ 0 ∷ []))
    ∷ (judging loop_chart loop_table loop_figures (sheet minus_zero two) None reads (18 ∷ 0 ∷ 0 ∷ 0 ∷ 0 ∷ []))
    ∷ (judging loop_chart loop_table loop_figures (sheet eighth nan_bits) None reads (18 ∷ 0 ∷ 0 ∷ 0 ∷ 0 ∷ []))
    ∷ (loop_by (latest infinity) reads (18 ∷ 0 ∷ 0 ∷ 0 ∷ 0 ∷ []))
    ∷ (loop_by (window most least) reads (18 ∷ 0 ∷ 0 ∷ 0 ∷ 0 ∷ []))
    -- at 0.125 alone, 0.25 and 2.5 without rounding
    ∷ (judging loop_chart loop_table loop_figures (sheet eighth zero) (latest two_and_half) reads (0 ∷ 0 ∷ 1 ∷ quarter ∷ two_and_half ∷ []))
    ∷ (judging loop_chart loop_table loop_figures (sheet eighth minus_zero) (window quarter two_and_half) reads (0 ∷ 0 ∷ 1 ∷ quarter ∷ two_and_half ∷ []))
    -- beside a period of 0, what the totals refuse: a chart, a short table, one that fails, and 14 to 17
    ∷ (judging (take 7 loop_chart) loop_table loop_figures (sheet zero zero) None reads (1 ∷ 0 ∷ 0 ∷ 0 ∷ 0 ∷ []))
    ∷ (judging (set loop_chart 24 0xC0) loop_table loop_figures (sheet zero zero) None reads (9 ∷ 2 ∷ 0 ∷ 0 ∷ 0 ∷ []))
    ∷ (judging loop_chart (cut 2 3 3) loop_figures (sheet zero zero) None reads (11 ∷ 0 ∷ 0 ∷ 0 ∷ 0 ∷ []))
    ∷ (judging loop_chart younger loop_figures (sheet zero zero) None reads (13 ∷ 0 ∷ 0 ∷ 0 ∷ 0 ∷ []))
    ∷ (judging loop_chart loop_table (figures_with 1 10 (1 ∷ 1 ∷ []) (1 ∷ 10 ∷ 1 ∷ [])) (sheet zero zero) None reads (14 ∷ 0 ∷ 0 ∷ 0 ∷ 0 ∷ []))
    ∷ (judging loop_chart loop_table (figures_with 11 10 (1 ∷ 1 ∷ 1 ∷ []) (1 ∷ 10 ∷ 1 ∷ [])) (sheet zero zero) None reads (15 ∷ 0 ∷ 0 ∷ 0 ∷ 0 ∷ []))
    ∷ (judging loop_chart loop_table (figures_with 1 10 (1 ∷ 1 ∷ 2 ∷ []) (1 ∷ 10 ∷ 1 ∷ [])) (sheet zero zero) None reads (16 ∷ 2 ∷ 0 ∷ 0 ∷ 0 ∷ []))
    ∷ (judging endless endless_table loop_figures (sheet zero zero) None reads (17 ∷ 2 ∷ 0 ∷ 0 ∷ 0 ∷ []))
    ∷ []
