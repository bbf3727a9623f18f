-- What the checker and the totals answer for tables that are written out: their refusals, each alone and several at once, yes and no, and
-- the sums. Nothing here is a rule of the tool: it is what rules 7.2 to 7.7, 10.2 to 10.4, 11.0, 11.11 and 11.13 to 11.17 come to.
use Rattle.std.specs.Prelude.{ℕ, List, [], ◌∷◌, set, take, replicate}
use Rattle.lists.specs.Soundings.{Sounding, ◌reads◌}
use Rattle.tables.specs.Lent.{Lent}
use Rattle.analysis.specs.Analysis.{table_in}
use Rattle.checker.specs.Checker.{check_says}
use Rattle.costs.specs.Costs.{Figures}
use Rattle.totals.specs.Totals.{total_says}
use Rattle.report.specs.Report.{zero_buffers}
use Rattle.demands.specs.Soundings.{after, loop_figures}
use Rattle.demands.specs.Charts.{loop_chart, straight_chart, one_set_two_ways_empty}

-- ---- by the checker: 11, yes and no

-- The number, and yes or no.
abbrev pub checking : List ℕ → Lent → List ℕ
checking bytes table = (check_says bytes table).number ∷ (check_says bytes table).yes ∷ []

-- The tables of the loop chart, and of it without the way out of its loop, whose node 2 is not reached.
abbrev pub loop_table : Lent
loop_table = record { must = 2 ∷ 2 ∷ 0 ∷ []; may = 2 ∷ 0 ∷ 0 ∷ []; marks = 1 ∷ 1 ∷ 1 ∷ [] }

abbrev pub endless : List ℕ
endless = set (set loop_chart 20 0x10) 23 0x00

abbrev pub endless_table : Lent
endless_table = record { must = 2 ∷ 2 ∷ 0 ∷ []; may = 2 ∷ 0 ∷ 0 ∷ []; marks = 1 ∷ 1 ∷ 0 ∷ [] }

-- The loop chart's table with so much of each buffer.
abbrev pub cut : ℕ → ℕ → ℕ → Lent
cut must may marks =
    record { must = take must loop_table.must; may = take may loop_table.may; marks = take marks loop_table.marks }

-- Another must age at node 1: what it has after its own record, where the start's is above.
abbrev pub younger : Lent
younger = record { must = set loop_table.must 1 0; may = loop_table.may; marks = loop_table.marks }

-- The checker's number, yes or no: 11, and tables near the analysis's own.
abbrev pub unchecked : List Sounding
unchecked =
    -- the tables are those that the analysis leaves, and they pass
    ((after loop_chart).must reads (2 ∷ 2 ∷ 0 ∷ 0 ∷ 0 ∷ 0 ∷ []))
    ∷ ((after loop_chart).may reads (2 ∷ 0 ∷ 0 ∷ 0 ∷ 0 ∷ 0 ∷ []))
    ∷ ((after loop_chart).marks reads (1 ∷ 1 ∷ 1 ∷ []))
    ∷ ((after endless).must reads (2 ∷ 2 ∷ 0 ∷ 0 ∷ 0 ∷ 0 ∷ []))
    ∷ ((after endless).may reads (2 ∷ 0 ∷ 0 ∷ 0 ∷ 0 ∷ 0 ∷ []))
    ∷ ((after endless).marks reads (1 ∷ 1 ∷ 0 ∷ []))
    ∷ (checking loop_chart loop_table reads (0 ∷ 1 ∷ []))
    ∷ (checking endless endless_table reads (0 ∷ 1 ∷ []))
    -- each buffer short alone; another age; a table of zeros
    ∷ (checking loop_chart (cut 2 3 3) reads (11 ∷ 0 ∷ []))
    ∷ (checking loop_chart (cut 3 2 3) reads (11 ∷ 0 ∷ []))
    ∷ (checking loop_chart (cut 3 3 2) reads (11 ∷ 0 ∷ []))
    ∷ (checking loop_chart younger reads (0 ∷ 0 ∷ []))
    ∷ (checking loop_chart (table_in (zero_buffers 3 1)) reads (0 ∷ 0 ∷ []))
    ∷ []

-- A table of three nodes and one block.
abbrev pub three : List ℕ → List ℕ → List ℕ → Lent
three must may marks = record { must = must; may = may; marks = marks }

-- The same of tables that are as loose as can be but for one place.
abbrev pub looser : List Sounding
looser =
    -- the loosest table passes, also with something behind it
    (checking loop_chart (three (2 ∷ 2 ∷ 2 ∷ []) (0 ∷ 0 ∷ 0 ∷ []) (1 ∷ 1 ∷ 1 ∷ [])) reads (0 ∷ 1 ∷ []))
    ∷ (checking loop_chart (three (2 ∷ 2 ∷ 2 ∷ 9 ∷ []) (0 ∷ 0 ∷ 0 ∷ 9 ∷ []) (1 ∷ 1 ∷ 1 ∷ 9 ∷ [])) reads (0 ∷ 1 ∷ []))
    -- a mark of 2; an age above A; a must age below the start's; one below what an arrow brings; a may age above it
    ∷ (checking loop_chart (three (2 ∷ 2 ∷ 2 ∷ []) (0 ∷ 0 ∷ 0 ∷ []) (1 ∷ 2 ∷ 1 ∷ [])) reads (0 ∷ 0 ∷ []))
    ∷ (checking loop_chart (three (2 ∷ 2 ∷ 3 ∷ []) (0 ∷ 0 ∷ 0 ∷ []) (1 ∷ 1 ∷ 1 ∷ [])) reads (0 ∷ 0 ∷ []))
    ∷ (checking loop_chart (three (1 ∷ 2 ∷ 2 ∷ []) (0 ∷ 0 ∷ 0 ∷ []) (1 ∷ 1 ∷ 1 ∷ [])) reads (0 ∷ 0 ∷ []))
    ∷ (checking loop_chart (three (2 ∷ 1 ∷ 2 ∷ []) (0 ∷ 0 ∷ 0 ∷ []) (1 ∷ 1 ∷ 1 ∷ [])) reads (0 ∷ 0 ∷ []))
    ∷ (checking loop_chart (three (2 ∷ 2 ∷ 2 ∷ []) (0 ∷ 0 ∷ 1 ∷ []) (1 ∷ 1 ∷ 1 ∷ [])) reads (0 ∷ 0 ∷ []))
    -- the target of an arrow unmarked; the entry unmarked; an unmarked row that is not 0
    ∷ (checking loop_chart (three (2 ∷ 2 ∷ 0 ∷ []) (0 ∷ 0 ∷ 0 ∷ []) (1 ∷ 1 ∷ 0 ∷ [])) reads (0 ∷ 0 ∷ []))
    ∷ (checking loop_chart (three (0 ∷ 2 ∷ 2 ∷ []) (0 ∷ 0 ∷ 0 ∷ []) (0 ∷ 1 ∷ 1 ∷ [])) reads (0 ∷ 0 ∷ []))
    ∷ (checking endless (three (2 ∷ 2 ∷ 1 ∷ []) (0 ∷ 0 ∷ 0 ∷ []) (1 ∷ 1 ∷ 0 ∷ [])) reads (0 ∷ 0 ∷ []))
    ∷ []

-- ---- by the totals: 11 and 13 to 17, and the sums

-- The number, the place, and the two totals.
abbrev pub totalling : List ℕ → Lent → Figures → List ℕ
totalling bytes table figures =
    (total_says bytes table figures).number
    ∷ (total_says bytes table figures).place
    ∷ (total_says bytes table figures).low
    ∷ (total_says bytes table figures).high
    ∷ []

abbrev pub figures_with : ℕ → ℕ → List ℕ → List ℕ → Figures
figures_with hit miss floors ceilings =
    record { costs = record { hit = hit; miss = miss }; floors = floors; ceilings = ceilings }

-- What the totals say of the loop chart: each refusal on one side of its mark and on the other, and several at once.
abbrev pub untotalled : List Sounding
untotalled =
    (totalling loop_chart loop_table loop_figures reads (0 ∷ 0 ∷ 2 ∷ 20 ∷ []))
    -- 11: each buffer short alone; 13: a table that the checker fails
    ∷ (totalling loop_chart (cut 2 3 3) loop_figures reads (11 ∷ 0 ∷ 0 ∷ 0 ∷ []))
    ∷ (totalling loop_chart (cut 3 2 3) loop_figures reads (11 ∷ 0 ∷ 0 ∷ 0 ∷ []))
    ∷ (totalling loop_chart (cut 3 3 2) loop_figures reads (11 ∷ 0 ∷ 0 ∷ 0 ∷ []))
    ∷ (totalling loop_chart younger loop_figures reads (13 ∷ 0 ∷ 0 ∷ 0 ∷ []))
    -- 14: a floor or a ceiling too few, or too many
    ∷ (totalling loop_chart loop_table (figures_with 1 10 (1 ∷ 1 ∷ []) (1 ∷ 10 ∷ 1 ∷ [])) reads (14 ∷ 0 ∷ 0 ∷ 0 ∷ []))
    ∷ (totalling loop_chart loop_table (figures_with 1 10 (1 ∷ 1 ∷ 1 ∷ 0 ∷ []) (1 ∷ 10 ∷ 1 ∷ [])) reads (14 ∷ 0 ∷ 0 ∷ 0 ∷ []))
    ∷ (totalling loop_chart loop_table (figures_with 1 10 (1 ∷ 1 ∷ 1 ∷ []) (1 ∷ 10 ∷ [])) reads (14 ∷ 0 ∷ 0 ∷ 0 ∷ []))
    ∷ (totalling loop_chart loop_table (figures_with 1 10 (1 ∷ 1 ∷ 1 ∷ []) (1 ∷ 10 ∷ 1 ∷ 1 ∷ [])) reads (14 ∷ 0 ∷ 0 ∷ 0 ∷ []))
    -- 15: a miss below a hit; the same costs are no fault
    ∷ (totalling loop_chart loop_table (figures_with 11 10 (1 ∷ 1 ∷ 1 ∷ []) (1 ∷ 10 ∷ 1 ∷ [])) reads (15 ∷ 0 ∷ 0 ∷ 0 ∷ []))
    ∷ (totalling loop_chart loop_table (figures_with 2 2 (1 ∷ 1 ∷ 1 ∷ []) (1 ∷ 10 ∷ 1 ∷ [])) reads (0 ∷ 0 ∷ 4 ∷ 22 ∷ []))
    -- 16: floor 2, ceiling 1 at node 2; at nodes 1 and 2, the first is told; a floor at its ceiling is no fault
    ∷ (totalling loop_chart loop_table (figures_with 1 10 (1 ∷ 1 ∷ 2 ∷ []) (1 ∷ 10 ∷ 1 ∷ [])) reads (16 ∷ 2 ∷ 0 ∷ 0 ∷ []))
    ∷ (totalling loop_chart loop_table (figures_with 1 10 (1 ∷ 11 ∷ 2 ∷ []) (1 ∷ 10 ∷ 1 ∷ [])) reads (16 ∷ 1 ∷ 0 ∷ 0 ∷ []))
    ∷ (totalling loop_chart loop_table (figures_with 1 10 (1 ∷ 10 ∷ 1 ∷ []) (1 ∷ 10 ∷ 1 ∷ [])) reads (0 ∷ 0 ∷ 11 ∷ 20 ∷ []))
    -- 17: floor 1 at node 2, which is not marked; floor 0 there is no fault, and its ceiling adds nothing
    ∷ (totalling endless endless_table loop_figures reads (17 ∷ 2 ∷ 0 ∷ 0 ∷ []))
    ∷ (totalling endless endless_table (figures_with 1 10 (1 ∷ 1 ∷ 0 ∷ []) (1 ∷ 10 ∷ 1 ∷ [])) reads (0 ∷ 0 ∷ 1 ∷ 19 ∷ []))
    -- several at once, and the smallest number is given: of 13 to 16, then of 14 to 16, of 15 and 16, of 16 and 17
    ∷ (totalling loop_chart younger (figures_with 2 1 (9 ∷ []) (1 ∷ [])) reads (13 ∷ 0 ∷ 0 ∷ 0 ∷ []))
    ∷ (totalling loop_chart loop_table (figures_with 2 1 (9 ∷ []) (1 ∷ [])) reads (14 ∷ 0 ∷ 0 ∷ 0 ∷ []))
    ∷ (totalling loop_chart loop_table (figures_with 2 1 (9 ∷ 1 ∷ 1 ∷ []) (1 ∷ 1 ∷ 1 ∷ [])) reads (15 ∷ 0 ∷ 0 ∷ 0 ∷ []))
    ∷ (totalling endless endless_table (figures_with 1 10 (1 ∷ 1 ∷ 2 ∷ []) (1 ∷ 10 ∷ 1 ∷ [])) reads (16 ∷ 2 ∷ 0 ∷ 0 ∷ []))
    ∷ []

-- The loop chart whose entry has no arrow: nodes 1 and 2 are not reached.
abbrev pub stopped : List ℕ
stopped = set (set loop_chart 12 0x00) 13 0x00

abbrev pub stopped_table : Lent
stopped_table = three (2 ∷ 0 ∷ 0 ∷ []) (2 ∷ 0 ∷ 0 ∷ []) (1 ∷ 0 ∷ 0 ∷ [])

-- Reads of 0x00, 0x10 and 0x00, two ways in one set, empty: two misses and a hit.
abbrev pub misses_chart : List ℕ
misses_chart = straight_chart one_set_two_ways_empty 0x04

abbrev pub misses_table : Lent
misses_table = record { must = 2 ∷ 2 ∷ 0 ∷ 2 ∷ 1 ∷ 0 ∷ []; may = 2 ∷ 2 ∷ 0 ∷ 2 ∷ 1 ∷ 0 ∷ []; marks = 1 ∷ 1 ∷ 1 ∷ [] }

-- What they say of other charts, tables and costs.
abbrev pub summed : List Sounding
summed =
    -- misses and a hit, a hit cost above 1, a table that is looser, one with something behind it
    (totalling misses_chart misses_table (figures_with 3 10 (1 ∷ 1 ∷ 1 ∷ []) (2 ∷ 2 ∷ 2 ∷ [])) reads (0 ∷ 0 ∷ 23 ∷ 46 ∷ []))
    ∷ (totalling loop_chart loop_table (figures_with 3 10 (1 ∷ 1 ∷ 1 ∷ []) (1 ∷ 10 ∷ 1 ∷ [])) reads (0 ∷ 0 ∷ 6 ∷ 40 ∷ []))
    ∷ (totalling loop_chart (three (2 ∷ 2 ∷ 2 ∷ []) (0 ∷ 0 ∷ 0 ∷ []) (1 ∷ 1 ∷ 1 ∷ [])) loop_figures reads (0 ∷ 0 ∷ 2 ∷ 20 ∷ []))
    ∷ (totalling loop_chart (three (2 ∷ 2 ∷ 0 ∷ 9 ∷ []) (2 ∷ 0 ∷ 0 ∷ 9 ∷ []) (1 ∷ 1 ∷ 1 ∷ 9 ∷ [])) loop_figures reads (0 ∷ 0 ∷ 2 ∷ 20 ∷ []))
    -- the same chart by a table that says nothing: all three touches are kept, and two blocks are charged for
    ∷ (totalling misses_chart (record { must = replicate 6 2; may = replicate 6 0; marks = 1 ∷ 1 ∷ 1 ∷ [] }) (figures_with 3 10 (1 ∷ 1 ∷ 1 ∷ []) (2 ∷ 2 ∷ 2 ∷ [])) reads (0 ∷ 0 ∷ 9 ∷ 32 ∷ []))
    -- 17 at the first of two unmarked nodes; at the second, where the first has no floor; and what is not reached adds nothing
    ∷ (totalling stopped stopped_table loop_figures reads (17 ∷ 1 ∷ 0 ∷ 0 ∷ []))
    ∷ (totalling stopped stopped_table (figures_with 1 10 (1 ∷ 0 ∷ 1 ∷ []) (1 ∷ 10 ∷ 1 ∷ [])) reads (17 ∷ 2 ∷ 0 ∷ 0 ∷ []))
    ∷ (totalling stopped stopped_table (figures_with 1 10 (1 ∷ 0 ∷ 0 ∷ []) (1 ∷ 10 ∷ 5 ∷ [])) reads (0 ∷ 0 ∷ 0 ∷ 0 ∷ []))
    ∷ []
