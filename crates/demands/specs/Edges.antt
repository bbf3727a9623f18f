-- Soundings at edges where a wrong rule of analysis, machine, checker, totals or report would show and nowhere else: tails behind what is
-- used, a chart without blocks in buffers without places, the largest costs, classes by ages of eight ways, marks after each pass, a report
-- of two-digit nodes. Nothing here is a rule of the tool: it is what rules 7.3, 8.1, 9.1 to 9.4, 10.2 to 10.4, 12.2, 12.3 and 14.1 to 14.4 come to.
use Rattle.std.specs.Prelude.{ℕ, true, false, List, [], ◌∷◌, ◌++◌, replicate}
use Rattle.lists.specs.Soundings.{Sounding, ◌reads◌}
use Rattle.chart.specs.Geometry.{all_passes}
use Rattle.chart.specs.Chart.{chart_in}
use Rattle.cache.specs.Plain.{empty_cache}
use Rattle.flow.specs.Pass.{after_passes}
use Rattle.ages.specs.Charted.{plan_of, ages_flow}
use Rattle.classes.specs.Class.{class_by}
use Rattle.tables.specs.Lent.{lent_of}
use Rattle.analysis.specs.Analysis.{Buffers, analysed, analyse_says}
use Rattle.report.specs.Text.{decimal}
use Rattle.machine.specs.Machine.{cost_of}
use Rattle.demands.specs.Charts.{loop_chart, chain}
use Rattle.demands.specs.Soundings.{alone, loop, ten_turns}
use Rattle.demands.specs.Refused.{sevens}
use Rattle.demands.specs.Tabled.{checking, three, totalling, figures_with, loop_table, stopped}
use Rattle.demands.specs.Shared.{no_block_zero, no_reference, from_two, classes_left}

-- ---- what is left behind

-- The loop chart settled in buffers that are one longer than used.
abbrev pub with_tails : Buffers
with_tails = (analysed loop_chart all_passes (sevens 2 4 4 4 7)).buffers

-- Refused for a short block list (11), and for having no bytes (1).
abbrev pub untouched : Buffers
untouched = (analysed loop_chart all_passes (sevens 0 4 4 4 7)).buffers

abbrev pub unread : Buffers
unread = (analysed [] all_passes (sevens 1 1 1 1 1)).buffers

abbrev pub left_behind : List Sounding
left_behind =
    -- each tail after an analysis that settles
    (with_tails.blocks reads (0 ∷ 7 ∷ []))
    ∷ (with_tails.must reads (2 ∷ 2 ∷ 0 ∷ 7 ∷ []))
    ∷ (with_tails.may reads (2 ∷ 0 ∷ 0 ∷ 7 ∷ []))
    ∷ (with_tails.marks reads (1 ∷ 1 ∷ 1 ∷ 7 ∷ []))
    ∷ (with_tails.classes reads (4 ∷ 4 ∷ 5 ∷ 4 ∷ 1 ∷ 4 ∷ 7 ∷ []))
    -- nothing has changed after 11 and 1
    ∷ ((untouched.blocks ++ untouched.must ++ untouched.may ++ untouched.marks ++ untouched.classes) reads replicate 19 7)
    ∷ ((unread.blocks ++ unread.must ++ unread.may ++ unread.marks ++ unread.classes) reads replicate 5 7)
    -- the block list after 12, of a chart without block 0
    ∷ ((analysed no_block_zero 1 (sevens 3 6 6 3 6)).buffers.blocks reads (5 ∷ 9 ∷ 7 ∷ []))
    -- a chart without blocks needs no place for them: settled, and checked
    ∷ (((analyse_says no_reference 2 (sevens 0 0 0 3 6)).number ∷ (analyse_says no_reference 2 (sevens 0 0 0 3 6)).passes ∷ []) reads (0 ∷ 2 ∷ []))
    ∷ (checking no_reference (three [] [] (1 ∷ 1 ∷ 1 ∷ [])) reads (0 ∷ 1 ∷ []))
    ∷ ((analysed no_reference all_passes (sevens 2 0 0 3 6)).buffers.blocks reads (7 ∷ 7 ∷ []))
    ∷ []

-- ---- ages, classes, passes, costs and digits

-- Writes of 0x00, 0x10, 0x00, 0x20 and 0x10 in one set of two ways, empty: block 0 is young again when it is written a second time.
abbrev pub rewritten : List ℕ
rewritten =
    (0x01 ∷ 0x40 ∷ 0x24 ∷ 0x00 ∷ 0x00 ∷ 0x50 ∷ 0x00 ∷ 0x00 ∷ [])
    ++ chain 0x80 1 (0x00 ∷ 0x04 ∷ 0x00 ∷ 0x08 ∷ 0x04 ∷ [])

-- The marks after so many passes over the steps that lead from 2 to 0 to 1.
abbrev pub marks_after : ℕ → List ℕ
marks_after passes = (lent_of (plan_of (chart_in from_two)) (after_passes (ages_flow (chart_in from_two)) passes)).marks

abbrev pub edges : List Sounding
edges =
    (classes_left 5 3 rewritten reads alone (2 ∷ 2 ∷ 1 ∷ 2 ∷ 2 ∷ []))
    ∷ ((cost_of (chart_in rewritten) 1 10 (1 ∷ 2 ∷ 3 ∷ 4 ∷ []) empty_cache ∷ []) reads (41 ∷ []))
    -- eight ways: must age 7 is a hit, may age 7 no miss
    ∷ ((class_by 8 7 0 true ∷ class_by 8 7 8 true ∷ class_by 8 8 8 true ∷ class_by 8 8 7 true ∷ class_by 8 8 7 false ∷ []) reads (1 ∷ 1 ∷ 2 ∷ 5 ∷ 3 ∷ []))
    -- one arrow further with each pass
    ∷ (marks_after 0 reads (0 ∷ 0 ∷ 1 ∷ []))
    ∷ (marks_after 1 reads (1 ∷ 0 ∷ 1 ∷ []))
    ∷ (marks_after 2 reads (1 ∷ 1 ∷ 1 ∷ []))
    -- a may age above A fails also where no walk comes
    ∷ (checking stopped (three (2 ∷ 2 ∷ 2 ∷ []) (2 ∷ 0 ∷ 3 ∷ []) (1 ∷ 1 ∷ 1 ∷ [])) reads (0 ∷ 0 ∷ []))
    ∷ (checking stopped (three (2 ∷ 2 ∷ 2 ∷ []) (2 ∷ 0 ∷ 0 ∷ []) (1 ∷ 1 ∷ 1 ∷ [])) reads (0 ∷ 1 ∷ []))
    -- the largest costs and ceilings: one miss and ten hits, and sums above 2^32
    ∷ ((cost_of loop 65534 65535 ten_turns empty_cache ∷ []) reads (720875 ∷ []))
    ∷ (totalling loop_chart loop_table (figures_with 65534 65535 (1 ∷ 1 ∷ 1 ∷ []) (1 ∷ 65535 ∷ 65535 ∷ [])) reads (0 ∷ 0 ∷ 131068 ∷ 8589541381 ∷ []))
    -- each digit
    ∷ (decimal 9758 reads (57 ∷ 55 ∷ 53 ∷ 56 ∷ []))
    ∷ (decimal 1234567890 reads (49 ∷ 50 ∷ 51 ∷ 52 ∷ 53 ∷ 54 ∷ 55 ∷ 56 ∷ 57 ∷ 48 ∷ []))
    ∷ []

-- ---- a report of eleven nodes

abbrev pub eleven_steps : List ℕ
eleven_steps = (0x01 ∷ 0x40 ∷ 0x20 ∷ 0x00 ∷ 0x00 ∷ 0xB0 ∷ 0x00 ∷ 0x00 ∷ []) ++ chain 0x00 1 (replicate 11 0x00)

-- Its report, a line here for each of its lines: nodes 11 blocks 0 passes 2, then 0 none none to 10 none none.
abbrev pub eleven_report : List ℕ
eleven_report =
    110 ∷ 111 ∷ 100 ∷ 101 ∷ 115 ∷ 32 ∷ 49 ∷ 49 ∷ 32 ∷ 98 ∷ 108 ∷ 111 ∷ 99 ∷ 107 ∷ 115 ∷ 32 ∷ 48 ∷ 32 ∷ 112 ∷ 97 ∷ 115 ∷ 115 ∷ 101 ∷ 115 ∷ 32 ∷ 50 ∷ 10
    ∷ 48 ∷ 32 ∷ 110 ∷ 111 ∷ 110 ∷ 101 ∷ 32 ∷ 110 ∷ 111 ∷ 110 ∷ 101 ∷ 10
    ∷ 49 ∷ 32 ∷ 110 ∷ 111 ∷ 110 ∷ 101 ∷ 32 ∷ 110 ∷ 111 ∷ 110 ∷ 101 ∷ 10
    ∷ 50 ∷ 32 ∷ 110 ∷ 111 ∷ 110 ∷ 101 ∷ 32 ∷ 110 ∷ 111 ∷ 110 ∷ 101 ∷ 10
    ∷ 51 ∷ 32 ∷ 110 ∷ 111 ∷ 110 ∷ 101 ∷ 32 ∷ 110 ∷ 111 ∷ 110 ∷ 101 ∷ 10
    ∷ 52 ∷ 32 ∷ 110 ∷ 111 ∷ 110 ∷ 101 ∷ 32 ∷ 110 ∷ 111 ∷ 110 ∷ 101 ∷ 10
    ∷ 53 ∷ 32 ∷ 110 ∷ 111 ∷ 110 ∷ 101 ∷ 32 ∷ 110 ∷ 111 ∷ 110 ∷ 101 ∷ 10
    ∷ 54 ∷ 32 ∷ 110 ∷ 111 ∷ 110 ∷ 101 ∷ 32 ∷ 110 ∷ 111 ∷ 110 ∷ 101 ∷ 10
    ∷ 55 ∷ 32 ∷ 110 ∷ 111 ∷ 110 ∷ 101 ∷ 32 ∷ 110 ∷ 111 ∷ 110 ∷ 101 ∷ 10
    ∷ 56 ∷ 32 ∷ 110 ∷ 111 ∷ 110 ∷ 101 ∷ 32 ∷ 110 ∷ 111 ∷ 110 ∷ 101 ∷ 10
    ∷ 57 ∷ 32 ∷ 110 ∷ 111 ∷ 110 ∷ 101 ∷ 32 ∷ 110 ∷ 111 ∷ 110 ∷ 101 ∷ 10
    ∷ 49 ∷ 48 ∷ 32 ∷ 110 ∷ 111 ∷ 110 ∷ 101 ∷ 32 ∷ 110 ∷ 111 ∷ 110 ∷ 101 ∷ 10
    ∷ []
