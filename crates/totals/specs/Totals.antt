-- The totals for any bytes, lent table, costs, floors and ceilings, and their refusals. Rules 11.11, 11.13 to 11.17, 12.6 and 12.8; the sums of
-- rules 10.2 to 10.4 are those of `costs`. By rule 11.0 a 16 at a later node goes before a 17 at an earlier one. Refusal 17 asks for a mark
-- alone, so it is given at a bare step too; a ceiling at an unmarked node is no fault. Costs, floors and ceilings are any numbers, though rule
-- 10.1 has 16 bits for them.
use Rattle.std.specs.Prelude.{ℕ, Bool, not, ◌&&◌, List, [], ◌∷◌, get_or, length, ltb, eqb, Result, Ok, Err}
use Rattle.lists.specs.Slices.{Slice}
use Rattle.lists.specs.Choice.{Case, ◌⇒◌, first_case, first}
use Rattle.refusals.specs.declared.Refusal.{Refusal}
use Rattle.refusals.specs.declared.Refusal.TheVariants.{ShortBuffer, NotPassing, BoundsLength, MissBelowHit, FloorAboveCeiling, FloorAtUnmarked}
use Rattle.refusals.specs.Refusals.{number_of, place_of}
use Rattle.chart.specs.Chart.{Read, accepted, refused, read_chart}
use Rattle.ages.specs.Plan.{Plan}
use Rattle.ages.specs.Charted.{plan_of}
use Rattle.tables.specs.Lent.{Lent, table_of, table_short}
use Rattle.checker.specs.Checker.{passing}
use Rattle.costs.specs.Costs.{Figures, low_total, high_total}
use Rattle.totals.specs.declared.Totals.{Totals}

-- The figures as the clauses of a contract name them.
abbrev pub entry_figures : ℕ → ℕ → Slice → Slice → Figures
entry_figures hit miss floors ceilings =
    record { costs = record { hit = hit; miss = miss }; floors = floors.entry.now; ceilings = ceilings.entry.now }

-- The low and the high total, answered.
abbrev pub totals_between : ℕ → ℕ → Result Totals Refusal
totals_between low high = Ok (record { low = low; high = high })

-- Rule 11.16, at node n.
abbrev pub crossed_at : List ℕ → List ℕ → ℕ → Bool
crossed_at floors ceilings n = ltb (get_or ceilings n 0) (get_or floors n 0)

-- Rule 11.17, at node n.
abbrev pub floor_at_unmarked : List ℕ → List ℕ → ℕ → Bool
floor_at_unmarked marks floors n = eqb (get_or marks n 0) 0 && ltb 0 (get_or floors n 0)

-- Rule 11.16: the first such node, or N if there is none.
abbrev pub first_crossed : Plan → Figures → ℕ
first_crossed plan figures = first plan.nodes (crossed_at figures.floors figures.ceilings)

-- Rule 11.17: the first such node, or N if there is none.
abbrev pub first_floor_at_unmarked : Plan → Lent → Figures → ℕ
first_floor_at_unmarked plan lent figures = first plan.nodes (floor_at_unmarked lent.marks figures.floors)

-- Rules 11.14 to 11.17, in the order of rule 11.0.
abbrev pub figure_cases : Plan → Lent → Figures → List (Case Refusal)
figure_cases plan lent figures =
    (not (eqb (length figures.floors) plan.nodes && eqb (length figures.ceilings) plan.nodes) ⇒ BoundsLength)
    ∷ (ltb figures.costs.miss figures.costs.hit ⇒ MissBelowHit)
    ∷ (ltb (first_crossed plan figures) plan.nodes ⇒ FloorAboveCeiling (first_crossed plan figures))
    ∷ (ltb (first_floor_at_unmarked plan lent figures) plan.nodes ⇒ FloorAtUnmarked (first_floor_at_unmarked plan lent figures))
    ∷ []

-- The answer in numbers: number and place, both 0 for no refusal, then the two totals.
pub record TotalsSaid : Type 0 where
  pub number : ℕ
  pub place : ℕ
  pub low : ℕ
  pub high : ℕ

-- Rules 12.6 and 12.8: the two totals, or a refusal's number and place.
abbrev pub totals_say : Result Totals Refusal → TotalsSaid
totals_say (Ok totals) = record { number = 0; place = 0; low = totals.low; high = totals.high }
totals_say (Err refusal) = record { number = number_of refusal; place = place_of refusal; low = 0; high = 0 }

-- Rules 10.2 to 10.4, of the table that is lent.
abbrev pub both_totals : Plan → Lent → Figures → Result Totals Refusal
both_totals plan lent figures = totals_between (low_total plan (table_of plan lent) figures) (high_total plan (table_of plan lent) figures)

-- Rule 12.6, of a table that passes.
unfoldable pub totalled_by : Plan → Lent → Figures → Result Totals Refusal
totalled_by plan lent figures = first_case Err (figure_cases plan lent figures) (both_totals plan lent figures)

-- Rules 11.11 and 11.13 to 11.17, in the order of rule 11.0.
abbrev pub total_cases : Plan → Lent → Figures → List (Case Refusal)
total_cases plan lent figures =
    (table_short plan lent ⇒ ShortBuffer) ∷ (not (passing plan lent) ⇒ NotPassing) ∷ figure_cases plan lent figures

-- Rule 12.6, of a chart that was read; refusals 1 to 10 are the reader's.
abbrev pub total_read : Lent → Figures → Read → Result Totals Refusal
total_read lent figures (accepted chart) =
    first_case Err (total_cases (plan_of chart) lent figures) (both_totals (plan_of chart) lent figures)
total_read lent figures (refused refusal) = Err refusal

-- Rule 12.6, of any bytes.
unfoldable pub totals : List ℕ → Lent → Figures → Result Totals Refusal
totals bytes lent figures = total_read lent figures (read_chart bytes)

-- The same in numbers.
abbrev pub total_says : List ℕ → Lent → Figures → TotalsSaid
total_says bytes lent figures = totals_say (totals bytes lent figures)
