-- Corners that the starred soundings leave out: several sets of several ways and the two fields swapped, long and short lines, each class,
-- blocks of two sets, another entry, a write, the words and numbers of a report, and a start with a block that the chart does not have.
-- Nothing here is a rule of the tool: it is what rules 1.2, 2.2, 3.1, 3.2, 4.7, 8.1, 11.10 and 14.2 to 14.4 come to.
use Rattle.std.specs.Prelude.{ℕ, zero, suc, true, false, List, [], ◌∷◌, map, set}
use Rattle.lists.specs.Soundings.{Sounding, ◌reads◌}
use Rattle.lists.specs.Lists.{joined}
use Rattle.chart.specs.declared.shape.Geometry.{Geometry}
use Rattle.refusals.specs.declared.Refusal.TheVariants.{TooManyBlocks}
use Rattle.chart.specs.Geometry.{block_of, set_of}
use Rattle.refusals.specs.Refusals.{place_of}
use Rattle.chart.specs.Sounded.{touches_out}
use Rattle.chart.specs.Chart.{Chart, chart_in, touches}
use Rattle.cache.specs.Plain.{Cache}
use Rattle.classes.specs.Class.{class_by}
use Rattle.report.specs.Report.{report, class_word}
use Rattle.report.specs.Text.{decimal}
use Rattle.demands.specs.Charts.{loop_chart, straight_chart, one_set_two_ways, two_sets_one_way, two_sets_two_ways, four_sets_one_way}
use Rattle.demands.specs.Soundings.{classes_for, alone}
use Rattle.demands.specs.Tabled.{endless, stopped}

abbrev pub shape : ℕ → ℕ → ℕ → Geometry
shape line sets ways = record { line = line; sets = sets; ways = ways }

abbrev pub corners : List Sounding
corners =
    -- lines of 4, 16 and 256 bytes; 1, 8 and 256 sets
    ((block_of (shape 2 0 1) 0x113 ∷ block_of (shape 4 0 1) 0x113 ∷ block_of (shape 8 0 1) 0x113 ∷ []) reads (68 ∷ 17 ∷ 1 ∷ []))
    ∷ ((set_of (shape 4 0 1) 0x1FF ∷ set_of (shape 4 3 1) 0x1FF ∷ set_of (shape 4 8 1) 0x1FF ∷ []) reads (0 ∷ 7 ∷ 255 ∷ []))
    -- four ways: a hit by its must age, whatever else; a miss by its may age, whatever the set; else kept by the set, or unsure
    ∷ ((class_by 4 3 0 true ∷ class_by 4 3 4 false ∷ class_by 4 4 4 true ∷ class_by 4 4 3 true ∷ class_by 4 4 3 false ∷ []) reads (1 ∷ 1 ∷ 2 ∷ 5 ∷ 3 ∷ []))
    -- a bare step, a kept touch and a hit; nodes that are not reached
    ∷ (classes_for loop_chart reads alone (4 ∷ 5 ∷ 1 ∷ []))
    ∷ (classes_for endless reads alone (4 ∷ 5 ∷ 0 ∷ []))
    ∷ (classes_for stopped reads alone (4 ∷ 0 ∷ 0 ∷ []))
    -- 0x00, 0x40, 0x00: S 1 and A 2, and the two fields swapped
    ∷ (classes_for (straight_chart two_sets_two_ways 0x10) reads alone (5 ∷ 5 ∷ 1 ∷ []))
    ∷ (classes_for (straight_chart four_sets_one_way 0x10) reads alone (5 ∷ 2 ∷ 2 ∷ []))
    -- two blocks of two sets: neither ages the other
    ∷ (classes_for (straight_chart two_sets_one_way 0x04) reads alone (5 ∷ 5 ∷ 1 ∷ []))
    -- the loop chart entered at node 2
    ∷ (classes_for (set loop_chart 6 0x02) reads alone (0 ∷ 0 ∷ 2 ∷ []))
    -- its node 1 reads; with kind 2 it writes
    ∷ (touches_out (touches (chart_in loop_chart) 1) reads (1 ∷ 0 ∷ []))
    ∷ (touches_out (touches (chart_in (set loop_chart 16 0x80)) 1) reads (2 ∷ 0 ∷ []))
    -- "refused 9 at 2", the words of the classes in turn, and a number of seven digits
    ∷ (report (set loop_chart 24 0xC0) reads (114 ∷ 101 ∷ 102 ∷ 117 ∷ 115 ∷ 101 ∷ 100 ∷ 32 ∷ 57 ∷ 32 ∷ 97 ∷ 116 ∷ 32 ∷ 50 ∷ 10 ∷ []))
    ∷ (joined (map class_word (0 ∷ 1 ∷ 2 ∷ [])) reads (117 ∷ 110 ∷ 114 ∷ 101 ∷ 97 ∷ 99 ∷ 104 ∷ 101 ∷ 100 ∷ 104 ∷ 105 ∷ 116 ∷ 109 ∷ 105 ∷ 115 ∷ 115 ∷ []))
    ∷ (joined (map class_word (3 ∷ 4 ∷ 5 ∷ [])) reads (117 ∷ 110 ∷ 115 ∷ 117 ∷ 114 ∷ 101 ∷ 110 ∷ 111 ∷ 110 ∷ 101 ∷ 107 ∷ 101 ∷ 112 ∷ 116 ∷ []))
    ∷ (decimal 1230456 reads (49 ∷ 50 ∷ 51 ∷ 48 ∷ 52 ∷ 53 ∷ 54 ∷ []))
    -- the place of refusal 10
    ∷ ((place_of (TooManyBlocks 65) ∷ []) reads (65 ∷ []))
    ∷ []

-- A chart with an unknown start, and contents that it allows: block 9, which it does not have, is younger than block 1, which it has.
abbrev pub unknown_start : Chart
unknown_start = chart_in (straight_chart one_set_two_ways 0x04)

abbrev pub strangers : Cache
strangers zero = 9 ∷ 1 ∷ []
strangers (suc set) = []
