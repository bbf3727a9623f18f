-- Soundings of references across two lines: both blocks in one set, in neighbouring sets, and from the last set to set 0; with one way, where the second
-- touch throws the first block out; loops, classes, ages, passes, costs, totals and a report. docs/STRADDLING.md works the numbers out by hand.
-- Nothing here is a rule of the tool: it is what rules 2.10, 3.2, 3.3, 5.3, 6.3 to 6.6, 7.6, 8.1, 8.2, 10.2 to 10.4, 11.11, 11.12, 12.2, 12.3, 14.1 and
-- 14.2 come to.
use Rattle.std.specs.Prelude.{ℕ, ◌+◌, ◌*◌, ◌/◌, ◌%◌, List, [], ◌∷◌, ◌++◌, replicate}
use Rattle.lists.specs.Soundings.{Sounding, ◌reads◌}
use Rattle.chart.specs.Geometry.{all_passes}
use Rattle.chart.specs.Chart.{chart_in}
use Rattle.cache.specs.Plain.{empty_cache}
use Rattle.machine.specs.Machine.{cost_of}
use Rattle.analysis.specs.Analysis.{Buffers, table_in, analysed, analyse_says}
use Rattle.report.specs.Report.{zero_buffers}
use Rattle.demands.specs.Refused.{sevens}
use Rattle.demands.specs.Tabled.{checking, totalling, figures_with}

-- ---- charts of 16-byte lines

-- A header of so many nodes with entry 0; S, A and the start's code.
abbrev pub headed : ℕ → ℕ → ℕ → ℕ → List ℕ
headed nodes sets ways start = 0x01 ∷ (0x40 + sets) ∷ (ways * 16 + start * 4) ∷ 0x00 ∷ 0x00 ∷ (nodes * 16) ∷ 0x00 ∷ 0x00 ∷ []

-- A read from an address below 0x400 on, of this size code, with arrows to these nodes, two at most and below 16.
abbrev pub read_from : ℕ → ℕ → List ℕ → List ℕ
read_from address size [] = 0x40 ∷ 0x00 ∷ 0x00 ∷ (address / 4) ∷ (address % 4 * 64) ∷ 0x00 ∷ 0x00 ∷ size ∷ []
read_from address size (t ∷ []) = 0x40 ∷ 0x00 ∷ 0x00 ∷ (address / 4) ∷ (address % 4 * 64 + 16) ∷ t ∷ 0x00 ∷ size ∷ []
read_from address size (t ∷ (u ∷ l)) = 0x40 ∷ 0x00 ∷ 0x00 ∷ (address / 4) ∷ (address % 4 * 64 + 32) ∷ t ∷ 0x00 ∷ (u * 16 + size) ∷ []

-- Four bytes from one address on, then one byte at each of two others.
abbrev pub word_then : ℕ → ℕ → ℕ → List ℕ
word_then word one other = read_from word 2 (1 ∷ []) ++ read_from one 0 (2 ∷ []) ++ read_from other 0 []

-- Four bytes at 0x0E, and then one byte of each of the two blocks, 0 and 1.
abbrev pub across_two : ℕ → ℕ → ℕ → List ℕ
across_two sets ways start = headed 3 sets ways start ++ word_then 0x0E 0x00 0x10

-- One byte at 0x00, four bytes at 0x3E, which end in block 4, and one byte at 0x00 again; four sets of one way, empty.
abbrev pub from_last_set : List ℕ
from_last_set = headed 3 2 1 1 ++ read_from 0x00 0 (1 ∷ []) ++ read_from 0x3E 2 (2 ∷ []) ++ read_from 0x00 0 []

-- The chart charts/straddle.hex: two sets of one way, empty; four bytes at 0x0E, one at 0x00 and at 0x10, four at 0x1E, one at 0x00.
abbrev pub straddle : List ℕ
straddle =
    headed 5 1 1 1
    ++ read_from 0x0E 2 (1 ∷ [])
    ++ read_from 0x00 0 (2 ∷ [])
    ++ read_from 0x10 0 (3 ∷ [])
    ++ read_from 0x1E 2 (4 ∷ [])
    ++ read_from 0x00 0 []

-- Its report, a line here for each of its lines: nodes 5 blocks 3 passes 2; 0 miss miss, 1 hit none, 2 hit none, 3 hit miss, 4 miss none.
abbrev pub straddle_report : List ℕ
straddle_report =
    110 ∷ 111 ∷ 100 ∷ 101 ∷ 115 ∷ 32 ∷ 53 ∷ 32 ∷ 98 ∷ 108 ∷ 111 ∷ 99 ∷ 107 ∷ 115 ∷ 32 ∷ 51 ∷ 32 ∷ 112 ∷ 97 ∷ 115 ∷ 115 ∷ 101 ∷ 115 ∷ 32 ∷ 50 ∷ 10
    ∷ 48 ∷ 32 ∷ 109 ∷ 105 ∷ 115 ∷ 115 ∷ 32 ∷ 109 ∷ 105 ∷ 115 ∷ 115 ∷ 10
    ∷ 49 ∷ 32 ∷ 104 ∷ 105 ∷ 116 ∷ 32 ∷ 110 ∷ 111 ∷ 110 ∷ 101 ∷ 10
    ∷ 50 ∷ 32 ∷ 104 ∷ 105 ∷ 116 ∷ 32 ∷ 110 ∷ 111 ∷ 110 ∷ 101 ∷ 10
    ∷ 51 ∷ 32 ∷ 104 ∷ 105 ∷ 116 ∷ 32 ∷ 109 ∷ 105 ∷ 115 ∷ 115 ∷ 10
    ∷ 52 ∷ 32 ∷ 109 ∷ 105 ∷ 115 ∷ 115 ∷ 32 ∷ 110 ∷ 111 ∷ 110 ∷ 101 ∷ 10
    ∷ []

-- One node that reads four bytes at 0x0E and leads to itself and to node 1, which reads one byte at 0x00; and node 2, to which no arrow leads.
abbrev pub word_loop : ℕ → ℕ → ℕ → List ℕ
word_loop sets ways start = headed 3 sets ways start ++ read_from 0x0E 2 (0 ∷ 1 ∷ []) ++ read_from 0x00 0 [] ++ read_from 0x0E 2 []

-- ---- what is read off

-- The buffers after an analysis with room for so many nodes and blocks.
abbrev pub settled_in : ℕ → ℕ → List ℕ → Buffers
settled_in nodes blocks bytes = (analysed bytes all_passes (zero_buffers nodes blocks)).buffers

abbrev pub classes_in : List ℕ → List ℕ
classes_in bytes = (settled_in 3 2 bytes).classes

-- What the walk through nodes 0, 1 and 2 costs from an empty cache, with 1 for a hit and 10 for a miss.
abbrev pub walk_cost : List ℕ → ℕ
walk_cost bytes = cost_of (chart_in bytes) 1 10 (1 ∷ 2 ∷ []) empty_cache

-- Number, place and totals of the table that the analysis leaves.
abbrev pub totals_of : List ℕ → List ℕ → List ℕ → List ℕ
totals_of bytes floors ceilings = totalling bytes (table_in (settled_in 3 2 bytes)) (figures_with 1 10 floors ceilings)

abbrev pub straddling : List Sounding
straddling =
    -- one set of two ways: both blocks stay
    (classes_in (across_two 0 2 1) reads (2 ∷ 2 ∷ 1 ∷ 4 ∷ 1 ∷ 4 ∷ []))
    ∷ (classes_in (across_two 0 2 0) reads (5 ∷ 5 ∷ 1 ∷ 4 ∷ 1 ∷ 4 ∷ []))
    -- one set of one way: block 1 throws block 0 out, so that both later reads miss, and the second touch surely misses whatever was there
    ∷ (classes_in (across_two 0 1 1) reads (2 ∷ 2 ∷ 2 ∷ 4 ∷ 2 ∷ 4 ∷ []))
    ∷ (classes_in (across_two 0 1 0) reads (5 ∷ 2 ∷ 2 ∷ 4 ∷ 2 ∷ 4 ∷ []))
    -- neighbouring sets of one way: neither block ages the other
    ∷ (classes_in (across_two 1 1 1) reads (2 ∷ 2 ∷ 1 ∷ 4 ∷ 1 ∷ 4 ∷ []))
    ∷ (classes_in (across_two 1 1 0) reads (5 ∷ 5 ∷ 1 ∷ 4 ∷ 1 ∷ 4 ∷ []))
    -- from the last set to set 0: block 4 throws block 0 out
    ∷ ((settled_in 3 3 from_last_set).classes reads (2 ∷ 4 ∷ 2 ∷ 2 ∷ 2 ∷ 4 ∷ []))
    ∷ ((settled_in 3 3 from_last_set).blocks reads (0 ∷ 3 ∷ 4 ∷ []))
    ∷ ((settled_in 5 3 straddle).classes reads (2 ∷ 2 ∷ 1 ∷ 4 ∷ 1 ∷ 4 ∷ 1 ∷ 2 ∷ 2 ∷ 4 ∷ []))
    -- the ages on arrival, node by node: of one set with two ways, empty, and with one way, unknown
    ∷ ((settled_in 3 2 (across_two 0 2 1)).must reads (2 ∷ 2 ∷ 1 ∷ 0 ∷ 0 ∷ 1 ∷ []))
    ∷ ((settled_in 3 2 (across_two 0 2 1)).may reads (2 ∷ 2 ∷ 1 ∷ 0 ∷ 0 ∷ 1 ∷ []))
    ∷ ((settled_in 3 2 (across_two 0 1 0)).must reads (1 ∷ 1 ∷ 1 ∷ 0 ∷ 0 ∷ 1 ∷ []))
    ∷ ((settled_in 3 2 (across_two 0 1 0)).may reads (0 ∷ 0 ∷ 1 ∷ 0 ∷ 0 ∷ 1 ∷ []))
    -- a loop over both blocks, which stay in two ways and throw each other out in one; a node that is not reached has two classes too
    ∷ (classes_in (word_loop 0 2 1) reads (5 ∷ 5 ∷ 1 ∷ 4 ∷ 0 ∷ 0 ∷ []))
    ∷ (classes_in (word_loop 0 1 1) reads (2 ∷ 2 ∷ 2 ∷ 4 ∷ 0 ∷ 0 ∷ []))
    ∷ []

abbrev pub straddling_paid : List Sounding
straddling_paid =
    -- each touch is paid: two misses and two hits, or four misses
    ((walk_cost (across_two 0 2 1) ∷ walk_cost (across_two 0 1 1) ∷ walk_cost (across_two 1 1 1) ∷ walk_cost from_last_set ∷ []) reads (22 ∷ 40 ∷ 22 ∷ 40 ∷ []))
    ∷ ((cost_of (chart_in straddle) 1 10 (1 ∷ 2 ∷ 3 ∷ 4 ∷ []) empty_cache ∷ []) reads (43 ∷ []))
    -- three turns of the loop in two ways: two misses, then hits
    ∷ ((cost_of (chart_in (word_loop 0 2 1)) 1 10 (0 ∷ 0 ∷ 1 ∷ []) empty_cache ∷ []) reads (25 ∷ []))
    -- and each is in the totals, by its own class: floors 1 1 1 and ceilings 2 3 4; of the loop, where two touches are kept, floors 1 1 0 and ceilings 3 1 9
    ∷ (totals_of (across_two 0 2 1) (1 ∷ 1 ∷ 1 ∷ []) (2 ∷ 3 ∷ 4 ∷ []) reads (0 ∷ 0 ∷ 22 ∷ 47 ∷ []))
    ∷ (totals_of (across_two 0 1 0) (1 ∷ 1 ∷ 1 ∷ []) (2 ∷ 3 ∷ 4 ∷ []) reads (0 ∷ 0 ∷ 31 ∷ 101 ∷ []))
    ∷ (totals_of (word_loop 0 2 1) (1 ∷ 1 ∷ 0 ∷ []) (3 ∷ 1 ∷ 9 ∷ []) reads (0 ∷ 0 ∷ 3 ∷ 25 ∷ []))
    -- the table passes; with block 0 as young as after the first touch alone it does not
    ∷ (checking (across_two 0 2 1) (record { must = 2 ∷ 2 ∷ 1 ∷ 0 ∷ 0 ∷ 1 ∷ []; may = 2 ∷ 2 ∷ 1 ∷ 0 ∷ 0 ∷ 1 ∷ []; marks = 1 ∷ 1 ∷ 1 ∷ [] }) reads (0 ∷ 1 ∷ []))
    ∷ (checking (across_two 0 2 1) (record { must = 2 ∷ 2 ∷ 0 ∷ 0 ∷ 0 ∷ 1 ∷ []; may = 2 ∷ 2 ∷ 1 ∷ 0 ∷ 0 ∷ 1 ∷ []; marks = 1 ∷ 1 ∷ 1 ∷ [] }) reads (0 ∷ 0 ∷ []))
    -- six classes for three nodes: with five places there is refusal 11, and what is lent beyond six stays
    ∷ (((analyse_says (across_two 0 2 1) 2 (sevens 2 6 6 3 5)).number ∷ (analyse_says (across_two 0 2 1) 2 (sevens 2 6 6 3 6)).number ∷ []) reads (11 ∷ 0 ∷ []))
    ∷ ((analysed (across_two 0 2 1) 2 (sevens 2 6 6 3 7)).buffers.classes reads (2 ∷ 2 ∷ 1 ∷ 4 ∷ 1 ∷ 4 ∷ 7 ∷ []))
    ∷ ((analysed (across_two 0 2 1) 1 (sevens 2 6 6 3 7)).buffers.classes reads (replicate 6 0 ++ 7 ∷ []))
    ∷ []
