-- The totals of an accepted chart: when each refusal is given and when the sums are, which numbers there are, and that nothing counts
-- beyond the used parts of a table.
use Rattle.std.specs.Prelude.{Err, Ok, Result}
use native.Mathlib.Decide.{ℕ_discrete}
use Prim.Native.Nat.{ℕ, ◌≤◌, ◌<◌}
use mathlib.Core.Bool.{Bool, true, not, ◌&&◌, false}
use mathlib.Core.List.{List, [], ◌∷◌}
use mathlib.Core.Logic.{inl, inr}
use mathlib.Core.Path.{◌≡◌, refl, sym, ◌∙◌, ap}
use native.Mathlib.Omega.{arith}
use borrow.Author.Tests.{not-true, leb-true, eqb-false, eqb-true, eq-eqb, ne_eqb, ltb-false, le-ltb, not-false}
use lib.Dec.{ltb, eqb, leb}
use lib.ListN.{get_or, length}
use Rattle.lists.specs.Choice.{◌⇒◌, FirstApplies, NoneApplies, first_case}
use Rattle.lists.proofs.Choice.{first-applies, first-otherwise, applies-first, none-applies, first-same, answer-passes, and-true, none_passes, passes_none}
use Rattle.refusals.specs.declared.Refusal.{Refusal}
use Rattle.refusals.specs.declared.Refusal.TheVariants.{ShortBuffer, NotPassing, BoundsLength, MissBelowHit, FloorAboveCeiling, FloorAtUnmarked}
use Rattle.refusals.specs.Refusals.{number_of, place_of}
use Rattle.chart.specs.Chart.{Chart, Read, accepted, refused, read_chart, chart_cases}
use Rattle.cache.specs.Ages.{Ages}
use Rattle.flow.specs.Flow.{Cell}
use Rattle.tables.specs.Lent.{Lent, table_of, table_short, SameUsed}
use Rattle.ages.specs.Charted.{plan_of}
use Rattle.ages.proofs.Charting.{chart-sound}
use Rattle.tables.proofs.Used.{used-mark, used-table}
use Rattle.checker.specs.Checker.{passing, checked}
use Rattle.checker.specs.Inner.{answer_of}
use Rattle.checker.proofs.Answers.{checked-accepted, short-only, no-only}
use Rattle.checker.proofs.Deciding.{passing-yes, yes-long, yes-passing}
use Rattle.checker.proofs.Used.{passing-used}
use Rattle.costs.specs.Costs.{Figures, low_total, high_total}
use Rattle.totals.specs.Totals.{floor_at_unmarked, first_crossed, first_floor_at_unmarked, total_cases, total_read, totals, totals_say, totals_between}
use Rattle.demands.specs.Demand1.{TotalsRefusals, Summable}
use Rattle.demands.proofs.Refusals.{reading-refusals}
use Rattle.totals.specs.declared.Totals.{Totals}

module _ (bytes : List ℕ) (chart : Chart) (table : Lent) (figures : Figures) (read : read_chart bytes ≡ accepted chart) where
  abbrev sums : Result Totals Refusal
  sums = totals_between (low_total (plan_of chart) (table_of (plan_of chart) table) figures) (high_total (plan_of chart) (table_of (plan_of chart) table) figures)

  pub totals-accepted : totals bytes table figures ≡ first_case Err (total_cases (plan_of chart) table figures) sums
  unfolding totals
  totals-accepted = rw read

  -- Where sums are given, no rule applies, and where a refusal is, its rule is the first.
  given-none : (low high : ℕ) → totals bytes table figures ≡ totals_between low high → NoneApplies (total_cases (plan_of chart) table figures)
  given-none low high e =
      none-applies Err (total_cases (plan_of chart) table figures) sums (totals_between low high) (λ x q. let z : ◌≡◌ {A = ℕ} 0 1 = cc in omega arith) (sym totals-accepted ∙ e)

  given-first : (refusal : Refusal) → totals bytes table figures ≡ Err refusal → FirstApplies (total_cases (plan_of chart) table figures) refusal
  given-first refusal e =
      applies-first Err (total_cases (plan_of chart) table figures) sums refusal (λ a b q. cc) (λ q. let z : ◌≡◌ {A = ℕ} 0 1 = cc in omega arith) (sym totals-accepted ∙ e)

  -- What the checker answers decides the first two rules.
  checked-cases : (answer : Result Bool Refusal) → checked bytes table ≡ answer → answer_of (table_short (plan_of chart) table) (passing (plan_of chart) table) ≡ answer
  checked-cases answer e = sym (checked-accepted bytes chart table read) ∙ e

  short-first : checked bytes table ≡ Err ShortBuffer → FirstApplies (total_cases (plan_of chart) table figures) ShortBuffer
  short-first e = inl ((short-only ShortBuffer (table_short (plan_of chart) table) (passing (plan_of chart) table) (checked-cases (Err ShortBuffer) e)).0, refl)

  fails-first : checked bytes table ≡ Ok false → FirstApplies (total_cases (plan_of chart) table figures) NotPassing
  fails-first e =
      let both = no-only (table_short (plan_of chart) table) (passing (plan_of chart) table) (checked-cases (Ok false) e) in
      inr (both.0, inl (ap not both.1, refl))

  -- Where no rule applies, the sums are given for what the rules turned round say, and the other way.
  none-summable : NoneApplies (total_cases (plan_of chart) table figures) → Summable chart table figures
  none-summable none =
      let long = and-true (eqb (length figures.floors) chart.header.nodes) (eqb (length figures.ceilings) chart.header.nodes) (not-false _ none.1.1.0) in
      record {
        passing = passing-yes (plan_of chart) table (chart-sound bytes chart read) none.0 (not-false (passing (plan_of chart) table) none.1.0);
        figures_fit = record {
          floors_long = eqb-true (length figures.floors) chart.header.nodes long.0;
          ceilings_long = eqb-true (length figures.ceilings) chart.header.nodes long.1;
          costs = ltb-false figures.costs.miss figures.costs.hit none.1.1.1.0;
        };
        not_crossed = λ n h. ltb-false (get_or figures.ceilings n 0) (get_or figures.floors n 0) (none_passes chart.header.nodes _ none.1.1.1.1.0 n h);
        none_unmarked = λ n h z. unmarked n z (none_passes chart.header.nodes _ none.1.1.1.1.1.0 n h);
      }
    where
      unmarked : (n : ℕ) → get_or table.marks n 0 ≡ 0 → floor_at_unmarked table.marks figures.floors n ≡ false → get_or figures.floors n 0 ≡ 0
      unmarked n z e =
          let least = ltb-false 0 (get_or figures.floors n 0) (rw (eq-eqb (get_or table.marks n 0) 0 z) at e) in
          omega arith

  summable-none : Summable chart table figures → NoneApplies (total_cases (plan_of chart) table figures)
  summable-none summable = (
    yes-long (plan_of chart) table summable.passing,
    (
      ap not (yes-passing (plan_of chart) table summable.passing),
      (
        rw (eq-eqb _ _ summable.figures_fit.floors_long, eq-eqb _ _ summable.figures_fit.ceilings_long),
        (
          le-ltb figures.costs.miss figures.costs.hit summable.figures_fit.costs,
          (
            passes_none chart.header.nodes _ (λ n h. le-ltb (get_or figures.ceilings n 0) (get_or figures.floors n 0) (summable.not_crossed n h)),
            (passes_none chart.header.nodes _ none-floored, tt),
          ),
        ),
      ),
    ),
  )
    where
      none-floored : (n : ℕ) → n < chart.header.nodes → floor_at_unmarked table.marks figures.floors n ≡ false
      none-floored n h = go (ℕ_discrete (get_or table.marks n 0) 0)
        where
          go : Dec (get_or table.marks n 0 ≡ 0) → floor_at_unmarked table.marks figures.floors n ≡ false
          go (yes z) = rw (eq-eqb (get_or table.marks n 0) 0 z, summable.none_unmarked n h z)
          go (no z) = rw (ne_eqb (get_or table.marks n 0) 0 z)

  pub totals-refusals : TotalsRefusals bytes chart table figures
  totals-refusals =
      record {
        order = refl;
        given = λ refusal f. totals-accepted ∙ first-applies Err (total_cases (plan_of chart) table figures) sums refusal f;
        only = given-first;
        sums = λ summable. totals-accepted ∙ first-otherwise Err (total_cases (plan_of chart) table figures) sums (summable-none summable);
        only_sums = λ low high e. none-summable (given-none low high e);
        short = λ e. totals-accepted ∙ first-applies Err (total_cases (plan_of chart) table figures) sums ShortBuffer (short-first e);
        fails = λ e. totals-accepted ∙ first-applies Err (total_cases (plan_of chart) table figures) sums NotPassing (fails-first e);
      }

-- ---- numbers

-- Rule 12.6: which numbers there are.
abbrev used : Refusal → Bool
used refusal = leb (number_of refusal) 17 && not (eqb (number_of refusal) 12)

used-says : (refusal : Refusal) → used refusal ≡ true → (number_of refusal ≤ 17) × (number_of refusal ≡ 12 → ⊥)
used-says refusal e =
    let both = and-true (leb (number_of refusal) 17) (not (eqb (number_of refusal) 12)) e in
    (leb-true (number_of refusal) 17 both.0, eqb-false (number_of refusal) 12 (not-true (eqb (number_of refusal) 12) both.1))

pub totals-numbers : (bytes : List ℕ) (table : Lent) (figures : Figures) → ((totals_say (totals bytes table figures)).number ≤ 17) × ((totals_say (totals bytes table figures)).number ≡ 12 → ⊥)
unfolding totals
totals-numbers bytes table figures = go (read_chart bytes) refl
  where
    answer : (chart : Chart) (t : Result Totals Refusal) → first_case Err (total_cases (plan_of chart) table figures) (totals_between (low_total (plan_of chart) (table_of (plan_of chart) table) figures) (high_total (plan_of chart) (table_of (plan_of chart) table) figures)) ≡ t
        → ((totals_say t).number ≤ 17) × ((totals_say t).number ≡ 12 → ⊥)
    answer chart (Ok sums) e = (omega arith, λ q. omega arith)
    answer chart (Err refusal) e =
        used-says refusal
        (answer-passes used (total_cases (plan_of chart) table figures) refusal refl
        (applies-first Err (total_cases (plan_of chart) table figures) (totals_between (low_total (plan_of chart) (table_of (plan_of chart) table) figures) (high_total (plan_of chart) (table_of (plan_of chart) table) figures)) refusal (λ a b q. cc) (λ q. let z : ◌≡◌ {A = ℕ} 0 1 = cc in omega arith) e))

    go : (r : Read) → read_chart bytes ≡ r → ((totals_say (total_read table figures r)).number ≤ 17) × ((totals_say (total_read table figures r)).number ≡ 12 → ⊥)
    go (accepted chart) e = answer chart (first_case Err (total_cases (plan_of chart) table figures) (totals_between (low_total (plan_of chart) (table_of (plan_of chart) table) figures) (high_total (plan_of chart) (table_of (plan_of chart) table) figures))) refl
    go (refused refusal) e = used-says refusal (answer-passes used (chart_cases bytes) refusal refl (reading-refusals.only bytes refusal e))

pub totals_refusal : (bytes : List ℕ) (table : Lent) (figures : Figures) (refusal : Refusal) → totals bytes table figures ≡ Err refusal
    → totals_say (totals bytes table figures) ≡ record { number = number_of refusal; place = place_of refusal; low = 0; high = 0 }
totals_refusal bytes table figures refusal e = ap totals_say e

-- ---- rule 12.7, of the totals

module _ (bytes : List ℕ) (chart : Chart) (one other : Lent) (figures : Figures) (read : read_chart bytes ≡ accepted chart) (same : SameUsed (plan_of chart) one other) where
  unmarked-same : first_floor_at_unmarked (plan_of chart) one figures ≡ first_floor_at_unmarked (plan_of chart) other figures
  unmarked-same =
      first-same chart.header.nodes _ _
      (λ n h i. eqb (used-mark (plan_of chart) one other same n h i) 0 && ltb 0 (get_or figures.floors n 0))

  total-same : (total : List (Cell Ages) → ℕ) → total (table_of (plan_of chart) one) ≡ total (table_of (plan_of chart) other)
  total-same total = ap total (used-table (plan_of chart) one other same)

  abbrev answer_by : Bool → Bool → ℕ → ℕ → ℕ → Result Totals Refusal
  answer_by short pass unmarked low high =
      first_case Err
      ((short ⇒ ShortBuffer)
      ∷ (not pass ⇒ NotPassing)
      ∷ (not (eqb (length figures.floors) chart.header.nodes && eqb (length figures.ceilings) chart.header.nodes) ⇒ BoundsLength)
      ∷ (ltb figures.costs.miss figures.costs.hit ⇒ MissBelowHit)
      ∷ (ltb (first_crossed (plan_of chart) figures) chart.header.nodes ⇒ FloorAboveCeiling (first_crossed (plan_of chart) figures))
      ∷ (ltb unmarked chart.header.nodes ⇒ FloorAtUnmarked unmarked)
      ∷ [])
      (totals_between low high)

  pub totals_used : totals bytes one figures ≡ totals bytes other figures
  totals_used =
      totals-accepted bytes chart one figures read
      ∙ (λ i. answer_by ((same.one_long ∙ sym same.other_long) i) (passing-used (plan_of chart) (chart-sound bytes chart read) one other same i) (unmarked-same i) (total-same (λ T. low_total (plan_of chart) T figures) i) (total-same (λ T. high_total (plan_of chart) T figures) i))
      ∙ sym (totals-accepted bytes chart other figures read)
