-- The starred soundings as one list: what the definitions give, and the numbers that are asked for. Nothing here is a rule of the tool: they are
-- the examples of sections 5, 6, 8 and 10 of docs/RULES.md, but for the last of section 8, which `Straddling` has.
use Rattle.std.specs.Prelude.{ℕ, cond, List, [], ◌∷◌, ◌++◌, replicate, eqb}
use Rattle.lists.specs.Soundings.{Sounding, ◌reads◌}
use Rattle.chart.specs.Geometry.{all_passes}
use Rattle.chart.specs.Header.{header_in}
use Rattle.chart.specs.Chart.{Chart, chart_in}
use Rattle.cache.specs.Ages.{Columns, Ages, touch_ages, meet_ages}
use Rattle.cache.specs.Plain.{empty_cache}
use Rattle.costs.specs.Costs.{Figures}
use Rattle.analysis.specs.Analysis.{Buffers, table_in, analysed}
use Rattle.totals.specs.Totals.{total_says}
use Rattle.report.specs.Report.{zero_buffers}
use Rattle.machine.specs.Machine.{cost_of}
use Rattle.demands.specs.Charts.{one_set_two_ways_empty, one_set_two_ways, one_set_one_way, two_sets_one_way, loop_chart, straight_chart}

-- ---- how each is read off the definitions

-- So many blocks of one set with four ways.
abbrev pub four_ways : ℕ → Columns
four_ways count = record { count = count; key = λ block. 0; must_limit = λ block. 4; may_limit = λ block. 4 }

abbrev pub must_touched : List ℕ → ℕ → List ℕ
must_touched row m = (touch_ages (four_ways 5) m (record { must = row; may = row })).must

abbrev pub may_touched : List ℕ → ℕ → List ℕ
may_touched row m = (touch_ages (four_ways 5) m (record { must = row; may = row })).may

abbrev pub meeting : List ℕ → List ℕ → Ages
meeting one other =
    meet_ages (four_ways 2) (record { must = one; may = one }) (record { must = other; may = other })

-- The buffers after an analysis with room for as many nodes as the chart has, and for two blocks.
abbrev pub after : List ℕ → Buffers
after bytes = (analysed bytes all_passes (zero_buffers (header_in bytes).nodes 2)).buffers

abbrev pub classes_for : List ℕ → List ℕ
classes_for bytes = (after bytes).classes

-- The classes of nodes that make one touch at most: beside each the second, none, or unreached where that is the first.
abbrev pub alone : List ℕ → List ℕ
alone [] = []
alone (class ∷ classes) = class ∷ cond (eqb class 0) 0 4 ∷ alone classes

-- A hit costs 1 and a miss 10; each node is visited once, but the second up to ten times.
abbrev pub loop_figures : Figures
loop_figures =
    record {
      costs = record { hit = 1; miss = 10 };
      floors = 1 ∷ 1 ∷ 1 ∷ [];
      ceilings = 1 ∷ 10 ∷ 1 ∷ [];
    }

abbrev pub loop_totals : List ℕ
loop_totals =
    (total_says loop_chart (table_in (after loop_chart)) loop_figures).low
    ∷ (total_says loop_chart (table_in (after loop_chart)) loop_figures).high
    ∷ []

abbrev pub loop : Chart
loop = chart_in loop_chart

-- The walk of ten turns: node 0, then ten times node 1, then node 2.
abbrev pub ten_turns : List ℕ
ten_turns = replicate 10 1 ++ 2 ∷ []

-- ---- the list

abbrev pub row : List ℕ
row = 0 ∷ 1 ∷ 1 ∷ 3 ∷ 4 ∷ []

abbrev pub starred : List Sounding
starred =
    -- rules 6.3 and 6.4: a touch of the third block
    (must_touched row 2 reads (1 ∷ 1 ∷ 0 ∷ 3 ∷ 4 ∷ []))
    ∷ (may_touched row 2 reads (1 ∷ 2 ∷ 0 ∷ 3 ∷ 4 ∷ []))
    -- and of the fifth, whose age is A
    ∷ (must_touched row 4 reads (1 ∷ 2 ∷ 2 ∷ 4 ∷ 0 ∷ []))
    ∷ (may_touched row 4 reads (1 ∷ 2 ∷ 2 ∷ 4 ∷ 0 ∷ []))
    -- rule 6.6: two states meet
    ∷ ((meeting (1 ∷ 3 ∷ []) (2 ∷ 4 ∷ [])).must reads (2 ∷ 4 ∷ []))
    ∷ ((meeting (1 ∷ 3 ∷ []) (2 ∷ 4 ∷ [])).may reads (1 ∷ 3 ∷ []))
    -- rule 8.1: reads of 0x00, 0x10 and 0x00 in one set of two ways, unknown and empty, and of one way, unknown
    ∷ (classes_for (straight_chart one_set_two_ways 0x04) reads alone (5 ∷ 5 ∷ 1 ∷ []))
    ∷ (classes_for (straight_chart one_set_two_ways_empty 0x04) reads alone (2 ∷ 2 ∷ 1 ∷ []))
    ∷ (classes_for (straight_chart one_set_one_way 0x04) reads alone (5 ∷ 2 ∷ 2 ∷ []))
    -- of 0x00, 0x20 and 0x00, unknown: two ways in one set, and one way in each of two
    ∷ (classes_for (straight_chart one_set_two_ways 0x08) reads alone (5 ∷ 5 ∷ 1 ∷ []))
    ∷ (classes_for (straight_chart two_sets_one_way 0x08) reads alone (5 ∷ 2 ∷ 2 ∷ []))
    -- rules 10.2 to 10.4: the loop's totals; rule 5.3: what its ten turns cost
    ∷ (loop_totals reads (2 ∷ 20 ∷ []))
    ∷ ((cost_of loop 1 10 ten_turns empty_cache ∷ []) reads (20 ∷ []))
    ∷ []
