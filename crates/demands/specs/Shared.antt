-- Soundings of what the analysis and the plain machine share, which demands 2 and 3 therefore cannot catch: that a write touches what
-- a read does, which blocks a chart has, a chart that touches nothing, sets where lines are long, many ways; and of pass counts, which show in
-- what order nodes are taken and that a state is worked out once. Nothing here is a rule of the tool: it is what rules 2.7, 2.8, 3.1, 3.2, 3.4,
-- 5.3, 9.2 and 9.3 come to.
use Rattle.std.specs.Prelude.{ℕ, List, [], ◌∷◌, ◌++◌, set}
use Rattle.lists.specs.Soundings.{Sounding, ◌reads◌}
use Rattle.chart.specs.Chart.{chart_in}
use Rattle.chart.specs.Geometry.{all_passes}
use Rattle.cache.specs.Plain.{empty_cache}
use Rattle.analysis.specs.Analysis.{analysed, analyse_says}
use Rattle.report.specs.Report.{zero_buffers}
use Rattle.machine.specs.Machine.{cost_of}
use Rattle.demands.specs.Charts.{one_set_two_ways_empty, one_set_two_ways, one_set_one_way, chain, straight_chart, straight_of, straight_writes}
use Rattle.demands.specs.Soundings.{after, classes_for, alone}

-- Reads of blocks 5, 9 and 5: there is no block 0.
abbrev pub no_block_zero : List ℕ
no_block_zero = straight_of 0x40 one_set_two_ways 0x14 0x24

-- Three bare steps.
abbrev pub no_reference : List ℕ
no_reference = straight_of 0x00 one_set_two_ways 0x00 0x00

-- Passes and B.
abbrev pub counts : List ℕ → List ℕ
counts bytes =
    (analyse_says bytes all_passes (zero_buffers 3 2)).passes
    ∷ (analyse_says bytes all_passes (zero_buffers 3 2)).blocks
    ∷ []

-- Lines of 32 bytes, two sets of one way: reads of 0x00, 0x20, 0x00.
abbrev pub wide_lines : List ℕ
wide_lines = straight_of 0x40 (0x01 ∷ 0x51 ∷ 0x10 ∷ 0x00 ∷ 0x00 ∷ 0x30 ∷ 0x00 ∷ 0x00 ∷ []) 0x00 0x08

-- One set of eight ways, unknown: reads of blocks 0, 1, 2, 3, 4 and 0.
abbrev pub eight_ways : List ℕ
eight_ways =
    (0x01 ∷ 0x40 ∷ 0x80 ∷ 0x00 ∷ 0x00 ∷ 0x60 ∷ 0x00 ∷ 0x00 ∷ [])
    ++ chain 0x40 1 (0x00 ∷ 0x04 ∷ 0x08 ∷ 0x0C ∷ 0x10 ∷ 0x00 ∷ [])

-- Bare steps that lead from 2, the entry, to 0, and from there to 1.
abbrev pub from_two : List ℕ
from_two =
    (0x01 ∷ 0x40 ∷ 0x20 ∷ 0x00 ∷ 0x00 ∷ 0x30 ∷ 0x02 ∷ 0x00 ∷ [])
    ++ (0x00 ∷ 0x00 ∷ 0x00 ∷ 0x00 ∷ 0x10 ∷ 0x01 ∷ 0x00 ∷ 0x00 ∷ [])
    ++ (0x00 ∷ 0x00 ∷ 0x00 ∷ 0x00 ∷ 0x00 ∷ 0x00 ∷ 0x00 ∷ 0x00 ∷ [])
    ++ (0x00 ∷ 0x00 ∷ 0x00 ∷ 0x00 ∷ 0x10 ∷ 0x00 ∷ 0x00 ∷ 0x00 ∷ [])

-- One set of four ways, empty: node 0 reads 0x20 and leads to 1, which reads 0x10 and leads to itself and then to the bare step 2, which leads
-- back to 1.
abbrev pub self_loop_first : List ℕ
self_loop_first =
    (0x01 ∷ 0x40 ∷ 0x44 ∷ 0x00 ∷ 0x00 ∷ 0x30 ∷ 0x00 ∷ 0x00 ∷ [])
    ++ (0x40 ∷ 0x00 ∷ 0x00 ∷ 0x08 ∷ 0x10 ∷ 0x01 ∷ 0x00 ∷ 0x00 ∷ [])
    ++ (0x40 ∷ 0x00 ∷ 0x00 ∷ 0x04 ∷ 0x20 ∷ 0x01 ∷ 0x00 ∷ 0x20 ∷ [])
    ++ (0x00 ∷ 0x00 ∷ 0x00 ∷ 0x00 ∷ 0x10 ∷ 0x01 ∷ 0x00 ∷ 0x00 ∷ [])

-- The classes of a chart of so many nodes and blocks.
abbrev pub classes_left : ℕ → ℕ → List ℕ → List ℕ
classes_left nodes blocks bytes = (analysed bytes all_passes (zero_buffers nodes blocks)).buffers.classes

-- What the walk through all nodes in turn costs from an empty cache, with 1 for a hit and 10 for a miss.
abbrev pub chain_cost : List ℕ → List ℕ → ℕ
chain_cost bytes ts = cost_of (chart_in bytes) 1 10 ts empty_cache

abbrev pub straight_cost : List ℕ → ℕ
straight_cost bytes = chain_cost bytes (1 ∷ 2 ∷ [])

abbrev pub shared_soundings : List Sounding
shared_soundings =
    -- writes of 0x00, 0x10, 0x00: kept, kept and hit in two ways, kept, miss and miss in one
    (classes_for (straight_writes one_set_two_ways 0x04) reads alone (5 ∷ 5 ∷ 1 ∷ []))
    ∷ (classes_for (straight_writes one_set_one_way 0x04) reads alone (5 ∷ 2 ∷ 2 ∷ []))
    -- a read after a write hits, and a write between two reads ages the block that was read
    ∷ (classes_for (set (straight_chart one_set_two_ways 0x04) 8 0x80) reads alone (5 ∷ 5 ∷ 1 ∷ []))
    ∷ (classes_for (set (straight_chart one_set_one_way 0x04) 16 0x80) reads alone (5 ∷ 2 ∷ 2 ∷ []))
    -- the plain machine pays for writes as for reads
    ∷ ((straight_cost (straight_writes one_set_two_ways_empty 0x04) ∷ straight_cost (straight_writes one_set_two_ways_empty 0x00) ∷ []) reads (21 ∷ 12 ∷ []))
    -- a chart without block 0: blocks, classes, passes and B
    ∷ ((after no_block_zero).blocks reads (5 ∷ 9 ∷ []))
    ∷ (classes_for no_block_zero reads alone (5 ∷ 5 ∷ 1 ∷ []))
    ∷ (counts no_block_zero reads (2 ∷ 2 ∷ []))
    -- one without any reference: no block is listed, every node is marked, each class is none, and nothing is paid
    ∷ ((after no_reference).blocks reads (0 ∷ 0 ∷ []))
    ∷ ((after no_reference).marks reads (1 ∷ 1 ∷ 1 ∷ []))
    ∷ (classes_for no_reference reads alone (4 ∷ 4 ∷ 4 ∷ []))
    ∷ (counts no_reference reads (2 ∷ 0 ∷ []))
    ∷ ((straight_cost no_reference ∷ []) reads (0 ∷ []))
    ∷ []

-- Sets, ways and pass counts.
abbrev pub shape_soundings : List Sounding
shape_soundings =
    -- blocks 0 and 1 are of two sets, whatever the length of a line
    (classes_for wide_lines reads alone (5 ∷ 5 ∷ 1 ∷ []))
    ∷ ((straight_cost wide_lines ∷ []) reads (21 ∷ []))
    -- five blocks stay in eight ways
    ∷ (classes_left 6 5 eight_ways reads alone (5 ∷ 5 ∷ 5 ∷ 5 ∷ 5 ∷ 1 ∷ []))
    ∷ ((chain_cost eight_ways (1 ∷ 2 ∷ 3 ∷ 4 ∷ 5 ∷ []) ∷ []) reads (51 ∷ []))
    -- node 0 is taken before node 2, so that what 2 sends is seen in the pass after
    ∷ (counts from_two reads (3 ∷ 0 ∷ []))
    -- what node 1 sends to 2 was worked out before it met itself: worked out anew, it would be 3 passes
    ∷ (counts self_loop_first reads (5 ∷ 2 ∷ []))
    ∷ []
