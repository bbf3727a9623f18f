-- The examples of docs/RULES.md, section by section, as soundings, so that the page shows nothing that the definitions do not give. Those that
-- another list has too (sections 5, 6, 8 and 10 in `starred`, references of two and four bytes in `Sizes` of the crate `chart` and in
-- `Straddling`, 14 as `sample_report`; that section 7's table is the tightest, in `unchecked`; what section 15 has of the writer, in its own
-- soundings; section 17 in `timely`, and 18 in `bounds`, `figures_as_facts` and `not_bounded`) are not repeated. Nothing here is a rule of the tool: it is
-- what rules come to.
use Rattle.std.specs.Prelude.{ℕ, ◌*◌, ◌/◌, ◌%◌, Bool, cond, List, [], ◌∷◌, ◌++◌, length, replicate, set}
use Rattle.lists.specs.Soundings.{Sounding, ◌reads◌}
use Rattle.chart.specs.Geometry.{most_nodes, block_of, set_of, all_passes}
use Rattle.chart.specs.Header.{fields_in, header_in, header_numbers}
use Rattle.chart.specs.Chart.{records_in, node_at, chart_in}
use Rattle.chart.specs.Sounded.{node_out, read_out}
use Rattle.fields.specs.Fields.{read_node_says}
use Rattle.writer.specs.Sounded.{loop_bytes}
use Rattle.cache.specs.Plain.{has, touch_set, age_in, empty_cache}
use Rattle.flow.specs.Pass.{after_passes}
use Rattle.ages.specs.Charted.{plan_of, ages_flow}
use Rattle.tables.specs.Lent.{lent_of}
use Rattle.analysis.specs.Analysis.{Buffers, analysed, analyse_says}
use Rattle.machine.specs.Machine.{cost_of}
use Rattle.report.specs.Report.{report}
use Rattle.demands.specs.Charts.{loop_chart}
use Rattle.demands.specs.Soundings.{alone, loop, ten_turns}
use Rattle.demands.specs.Corners.{shape}
use Rattle.demands.specs.Refused.{sevens}
use Rattle.demands.specs.Tabled.{checking, three, younger}
use Rattle.demands.specs.Shared.{classes_left}
use Rattle.demands.specs.Straddling.{headed}
use Rattle.demands.specs.Staying.{step_to, read_block}

-- 1 for yes, 0 for no.
abbrev pub as_number : Bool → ℕ
as_number test = cond test 1 0

-- One node that reads block 0 and has no arrow.
abbrev pub one_node : List ℕ
one_node =
    0x01 ∷ 0x40 ∷ 0x24 ∷ 0x00 ∷ 0x00 ∷ 0x10 ∷ 0x00 ∷ 0x00
    ∷ 0x40 ∷ 0x00 ∷ 0x00 ∷ 0x00 ∷ 0x00 ∷ 0x00 ∷ 0x00 ∷ 0x00
    ∷ []

-- The loop with one pass allowed, in four places of each kind, and seven for classes, that hold 7.
abbrev pub one_pass : Buffers
one_pass = (analysed loop_chart 1 (sevens 4 4 4 4 7)).buffers

-- The loop, settled in the same.
abbrev pub settled_loop : Buffers
settled_loop = (analysed loop_chart all_passes (sevens 4 4 4 4 7)).buffers

-- 9,000 bytes: a header of the most nodes, and zeros.
abbrev pub too_long : List ℕ
too_long = 0x01 ∷ 0x40 ∷ 0x24 ∷ 0x00 ∷ (most_nodes / 16) ∷ (most_nodes % 16 * 16) ∷ 0x00 ∷ 0x00 ∷ replicate 8992 0

-- One set, empty: node 0 reads 0x00 and leads to 1 and 2, node 1 reads 0x10 and leads back, node 2 is a step that leads back.
abbrev pub past_another : ℕ → List ℕ
past_another ways = headed 3 0 ways 1 ++ read_block 0 (1 ∷ 2 ∷ []) ++ read_block 1 (0 ∷ []) ++ step_to (0 ∷ [])

-- All of them, in the order of the page.
abbrev pub examples : List Sounding
examples =
    -- section 1: the loop's edition, header and length
    (((fields_in loop_chart).edition ∷ header_numbers (header_in loop_chart)) reads (1 ∷ 4 ∷ 0 ∷ 2 ∷ 1 ∷ 3 ∷ 0 ∷ []))
    ∷ ((length loop_chart ∷ []) reads (32 ∷ []))
    -- section 2: its node 1, with the size code; the same with both arrows to node 2
    ∷ (((records_in loop_chart 1).size ∷ node_out (node_at loop_chart 1)) reads (0 ∷ 1 ∷ 0 ∷ 0 ∷ 2 ∷ 1 ∷ 2 ∷ []))
    ∷ (read_out (set loop_chart 21 0x02) reads (9 ∷ 1 ∷ 0 ∷ []))
    -- section 3: two addresses with their blocks and sets, and the loop's blocks
    ∷ ((block_of (shape 4 1 1) 0x23 ∷ set_of (shape 4 1 1) 2 ∷ block_of (shape 4 1 1) 0x30 ∷ set_of (shape 4 1 1) 3 ∷ []) reads (2 ∷ 0 ∷ 3 ∷ 1 ∷ []))
    ∷ ((chart_in loop_chart).blocks reads (0 ∷ []))
    -- section 4: 2 misses in 1 0; the ages after it; 1 hits then
    ∷ ((as_number (has 2 (1 ∷ 0 ∷ [])) ∷ touch_set 2 2 (1 ∷ 0 ∷ [])) reads (0 ∷ 2 ∷ 1 ∷ []))
    ∷ ((age_in 2 (2 ∷ 1 ∷ []) 2 ∷ age_in 2 (2 ∷ 1 ∷ []) 1 ∷ age_in 2 (2 ∷ 1 ∷ []) 0 ∷ []) reads (0 ∷ 1 ∷ 2 ∷ []))
    ∷ ((as_number (has 1 (2 ∷ 1 ∷ [])) ∷ touch_set 2 1 (2 ∷ 1 ∷ [])) reads (1 ∷ 1 ∷ 2 ∷ []))
    -- section 5: of the ten turns one touch misses and ten hit
    ∷ ((cost_of loop 0 1 ten_turns empty_cache ∷ cost_of loop 1 0 ten_turns empty_cache ∷ []) reads (1 ∷ 10 ∷ []))
    -- section 7: the loop's table, looser in a must age, and tighter than a walk allows
    ∷ (checking loop_chart (three (2 ∷ 2 ∷ 0 ∷ []) (2 ∷ 0 ∷ 0 ∷ []) (1 ∷ 1 ∷ 1 ∷ [])) reads (0 ∷ 1 ∷ []))
    ∷ (checking loop_chart (three (2 ∷ 2 ∷ 2 ∷ []) (2 ∷ 0 ∷ 0 ∷ []) (1 ∷ 1 ∷ 1 ∷ [])) reads (0 ∷ 1 ∷ []))
    ∷ (checking loop_chart younger reads (0 ∷ 0 ∷ []))
    -- section 9: passes of one node, and of the loop, whose first pass marks all nodes; no pass allowed
    ∷ (((analyse_says one_node all_passes (sevens 1 1 1 1 2)).passes ∷ (analyse_says loop_chart all_passes (sevens 4 4 4 4 7)).passes ∷ []) reads (1 ∷ 2 ∷ []))
    ∷ (((lent_of (plan_of loop) (after_passes (ages_flow loop) 0)).marks ++ (lent_of (plan_of loop) (after_passes (ages_flow loop) 1)).marks) reads (1 ∷ 0 ∷ 0 ∷ 1 ∷ 1 ∷ 1 ∷ []))
    ∷ (((analyse_says one_node 0 (sevens 1 1 1 1 2)).number ∷ (analyse_says one_node 0 (sevens 1 1 1 1 2)).place ∷ []) reads (12 ∷ 0 ∷ []))
    -- section 11: kind 3 at node 2; edition 2 beside it
    ∷ (read_out (set loop_chart 24 0xC0) reads (9 ∷ 2 ∷ 0 ∷ []))
    ∷ (read_out (set (set loop_chart 24 0xC0) 0 0x02) reads (2 ∷ 0 ∷ 0 ∷ []))
    -- section 12: settled, with the answer; refused 12, with the answer
    ∷ ((settled_loop.blocks ++ settled_loop.must ++ settled_loop.may) reads (0 ∷ 7 ∷ 7 ∷ 7 ∷ 2 ∷ 2 ∷ 0 ∷ 7 ∷ 2 ∷ 0 ∷ 0 ∷ 7 ∷ []))
    ∷ ((settled_loop.marks ++ settled_loop.classes) reads (1 ∷ 1 ∷ 1 ∷ 7 ∷ 4 ∷ 4 ∷ 5 ∷ 4 ∷ 1 ∷ 4 ∷ 7 ∷ []))
    ∷ (((analyse_says loop_chart all_passes (sevens 4 4 4 4 7)).passes ∷ (analyse_says loop_chart all_passes (sevens 4 4 4 4 7)).blocks ∷ []) reads (2 ∷ 1 ∷ []))
    ∷ ((one_pass.blocks ++ one_pass.must ++ one_pass.may) reads (0 ∷ 7 ∷ 7 ∷ 7 ∷ 0 ∷ 0 ∷ 0 ∷ 7 ∷ 0 ∷ 0 ∷ 0 ∷ 7 ∷ []))
    ∷ ((one_pass.marks ++ one_pass.classes) reads (0 ∷ 0 ∷ 0 ∷ 7 ∷ 0 ∷ 0 ∷ 0 ∷ 0 ∷ 0 ∷ 0 ∷ 7 ∷ []))
    ∷ (((analyse_says loop_chart 1 (sevens 4 4 4 4 7)).number ∷ (analyse_says loop_chart 1 (sevens 4 4 4 4 7)).passes ∷ (analyse_says loop_chart 1 (sevens 4 4 4 4 7)).blocks ∷ []) reads (12 ∷ 1 ∷ 1 ∷ []))
    -- section 13: "refused 8 at 0"
    ∷ (report too_long reads (114 ∷ 101 ∷ 102 ∷ 117 ∷ 115 ∷ 101 ∷ 100 ∷ 32 ∷ 56 ∷ 32 ∷ 97 ∷ 116 ∷ 32 ∷ 48 ∷ 10 ∷ []))
    -- section 15: node 1, and the loop's bytes
    ∷ ((read_node_says loop_chart 1).fields reads (1 ∷ 0 ∷ 0 ∷ 2 ∷ 1 ∷ 2 ∷ []))
    ∷ (loop_bytes reads loop_chart)
    -- section 16: the loop's first class of node 1 is in section 12; a block that comes back past another, or not: one way, and two
    ∷ ((classes_left 3 2 (past_another 1) ++ classes_left 3 2 (past_another 2)) reads alone (3 ∷ 2 ∷ 4 ∷ 5 ∷ 5 ∷ 4 ∷ []))
    ∷ []
