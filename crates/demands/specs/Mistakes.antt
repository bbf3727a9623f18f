-- Five mistakes that are easily made, each made on purpose where a right reading is known. Each reads otherwise. Nothing here is a rule of the
-- tool: each breaks one.
use Rattle.std.specs.Prelude.{ℕ, suc, ◌^◌, min, true, cond, List, [], ◌∷◌, replicate, eqb, ltb, leb}
use Rattle.lists.specs.Soundings.{Sounding, ◌reads◌}
use Rattle.lists.specs.Lists.{list_of}
use Rattle.chart.specs.Geometry.{all_passes}
use Rattle.chart.specs.Chart.{Chart, chart_in, block_count}
use Rattle.cache.specs.Ages.{Ages, age_of, meet_ages, start_ages}
use Rattle.flow.specs.Pass.{Outcome, settled, spent, settle}
use Rattle.ages.specs.Plan.{columns_of, flow_by}
use Rattle.ages.specs.Charted.{plan_of, ages_flow}
use Rattle.classes.specs.Class.{table_classes}
use Rattle.demands.specs.Charts.{one_set_two_ways_empty, one_set_two_ways, two_sets_one_way, straight_chart, entry_loop_chart}
use Rattle.demands.specs.Soundings.{classes_for, alone, must_touched, may_touched, row}

-- ---- an analysis with a start and a step of its own

abbrev pub classes_after : Chart → Outcome Ages → List ℕ
classes_after chart (settled passes table) = table_classes (plan_of chart) table
classes_after chart spent = []

-- The classes, in a chart, of an analysis that starts and steps so.
abbrev pub reads_by : Chart → Ages → (ℕ → Ages → Ages) → List ℕ
reads_by chart start step = classes_after chart (settle (flow_by (plan_of chart) start step) all_passes)

-- ---- the mistakes

-- 1. Sets for ways, against rule 1.2: 2^S ways in A sets, which is another chart; here A is 1.
abbrev pub sets_as_ways : Chart → Chart
sets_as_ways chart =
    record {
      header = record {
        geometry = record { line = chart.header.geometry.line; sets = 0; ways = 2 ^ chart.header.geometry.sets };
        start = chart.header.start;
        nodes = chart.header.nodes;
        entry = chart.header.entry;
      };
      node = chart.node;
      blocks = chart.blocks;
    }

abbrev pub swapped : Chart → List ℕ
swapped chart =
    classes_after (sets_as_ways chart) (settle (ages_flow (sets_as_ways chart)) all_passes)

-- 2. Against rule 6.3 a must age of h grows too; against rule 6.4 a may age of h stays. One set of four ways.
abbrev pub must_at_h : ℕ → (ℕ → ℕ) → ℕ → ℕ
must_at_h m age block = cond (eqb block m) 0 (cond (leb (age block) (age m)) (suc (age block)) (age block))

abbrev pub may_leaving_h : ℕ → (ℕ → ℕ) → ℕ → ℕ
may_leaving_h m age block = cond (eqb block m) 0 (cond (ltb (age block) (age m)) (min 4 (suc (age block))) (age block))

-- 3. Against rule 6.7 the start is not met at the entry: where the only arrow is its own, it has what its own step brings.
abbrev pub start_forgotten : Chart → List ℕ
start_forgotten chart =
    reads_by chart ((ages_flow chart).step chart.header.entry (ages_flow chart).start) (ages_flow chart).step

-- 4. Against rule 9.4 a target without a mark is met: where no arrow leads to the entry, what a node is brought has met its zeros.
abbrev pub zero_row : Chart → Ages
zero_row chart = record { must = replicate (block_count chart) 0; may = replicate (block_count chart) 0 }

abbrev pub zero_row_met : Chart → List ℕ
zero_row_met chart =
    reads_by chart (ages_flow chart).start (λ n a. meet_ages (columns_of (plan_of chart)) (zero_row chart) ((ages_flow chart).step n a))

-- 5. Against rule 6.2 an unknown start has the may ages of an empty one.
abbrev pub started_empty : Chart → List ℕ
started_empty chart = reads_by chart (start_ages (columns_of (plan_of chart)) true) (ages_flow chart).step

-- ---- what is right, and what each mistake reads

abbrev pub right : List Sounding
right =
    (classes_for (straight_chart two_sets_one_way 0x08) reads alone (5 ∷ 2 ∷ 2 ∷ []))
    ∷ (must_touched row 2 reads (1 ∷ 1 ∷ 0 ∷ 3 ∷ 4 ∷ []))
    ∷ (may_touched row 2 reads (1 ∷ 2 ∷ 0 ∷ 3 ∷ 4 ∷ []))
    ∷ (classes_for entry_loop_chart reads alone (5 ∷ []))
    ∷ (classes_for (straight_chart one_set_two_ways_empty 0x04) reads alone (2 ∷ 2 ∷ 1 ∷ []))
    ∷ (classes_for (straight_chart one_set_two_ways 0x04) reads alone (5 ∷ 5 ∷ 1 ∷ []))
    ∷ []

abbrev pub mistaken : List Sounding
mistaken =
    (swapped (chart_in (straight_chart two_sets_one_way 0x08)) reads alone (5 ∷ 5 ∷ 1 ∷ []))
    ∷ (list_of 5 (must_at_h 2 (age_of row)) reads (1 ∷ 2 ∷ 0 ∷ 3 ∷ 4 ∷ []))
    ∷ (list_of 5 (may_leaving_h 2 (age_of row)) reads (1 ∷ 1 ∷ 0 ∷ 3 ∷ 4 ∷ []))
    ∷ (start_forgotten (chart_in entry_loop_chart) reads alone (1 ∷ []))
    ∷ (zero_row_met (chart_in (straight_chart one_set_two_ways_empty 0x04)) reads alone (2 ∷ 5 ∷ 1 ∷ []))
    ∷ (started_empty (chart_in (straight_chart one_set_two_ways 0x04)) reads alone (2 ∷ 2 ∷ 1 ∷ []))
    ∷ []
