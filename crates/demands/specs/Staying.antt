-- Soundings of blocks that stay: two nodes that touch one block, a kept and an unsure touch of one block, blocks that walks bring together, one node, nodes
-- that no walk reaches, and a second touch that sees the first; which tables of one block pass; and what they cost. Nothing here is a rule of the tool: it
-- is what rules 8.1, 8.2, 10.2 to 10.4, 16.1, 16.3 and 16.5 to 16.8 come to.
use Rattle.std.specs.Prelude.{ℕ, ◌*◌, true, false, cond, List, [], ◌∷◌, ◌++◌, replicate}
use Rattle.lists.specs.Soundings.{Sounding, ◌reads◌}
use Rattle.chart.specs.Chart.{chart_in}
use Rattle.cache.specs.Plain.{empty_cache}
use Rattle.machine.specs.Machine.{cost_of}
use Rattle.tables.specs.Lent.{Lent}
use Rattle.analysis.specs.Analysis.{table_in}
use Rattle.flow.specs.Flow.{Cell, blank, holds}
use Rattle.flow.specs.Pass.{Outcome, settled, spent, settle}
use Rattle.ages.specs.Charted.{plan_of}
use Rattle.kept.specs.Since.{Since}
use Rattle.kept.specs.Kept.{kept_flow, kept_passes, kept_table}
use Rattle.kept.specs.Checked.{block_passing}
use Rattle.demands.specs.Demand3.{kept_misses, read_misses}
use Rattle.demands.specs.Charts.{loop_chart}
use Rattle.demands.specs.Soundings.{alone}
use Rattle.demands.specs.Tabled.{checking, totalling, figures_with}
use Rattle.demands.specs.Straddling.{headed, read_from, settled_in, word_loop}

-- ---- charts of 16-byte lines and one set, with entry 0; ways and the start's code are given

-- A bare step with arrows to these nodes, two at most and below 16.
abbrev pub step_to : List ℕ → List ℕ
step_to [] = replicate 8 0x00
step_to (t ∷ []) = 0x00 ∷ 0x00 ∷ 0x00 ∷ 0x00 ∷ 0x10 ∷ t ∷ 0x00 ∷ 0x00 ∷ []
step_to (t ∷ (u ∷ l)) = 0x00 ∷ 0x00 ∷ 0x00 ∷ 0x00 ∷ 0x20 ∷ t ∷ 0x00 ∷ (u * 16) ∷ []

-- A read of the first byte of a block.
abbrev pub read_block : ℕ → List ℕ → List ℕ
read_block block targets = read_from (block * 16) 0 targets

-- A loop with two ways round: both read block 0.
abbrev pub two_nodes : ℕ → ℕ → List ℕ
two_nodes ways start = headed 3 0 ways start ++ step_to (1 ∷ 2 ∷ []) ++ read_block 0 (0 ∷ []) ++ read_block 0 (0 ∷ [])

-- Block 0, then perhaps block 1, then block 0 again.
abbrev pub perhaps_other : ℕ → ℕ → List ℕ
perhaps_other ways start = headed 4 0 ways start ++ read_block 0 (1 ∷ []) ++ step_to (2 ∷ 3 ∷ []) ++ read_block 1 (3 ∷ []) ++ read_block 0 []

-- Block 0 on one way, block 1 on the other; then block 0.
abbrev pub one_of_two : ℕ → ℕ → List ℕ
one_of_two ways start = headed 4 0 ways start ++ step_to (1 ∷ 2 ∷ []) ++ read_block 0 (3 ∷ []) ++ read_block 1 (3 ∷ []) ++ read_block 0 []

-- Block 0, then block 1 on one way and block 2 on the other, and then back.
abbrev pub either_other : ℕ → ℕ → List ℕ
either_other ways start = headed 4 0 ways start ++ read_block 0 (1 ∷ 2 ∷ []) ++ read_block 1 (3 ∷ []) ++ read_block 2 (3 ∷ []) ++ step_to (0 ∷ [])

-- One node that reads block 0 and ends, or leads to itself.
abbrev pub only_node : ℕ → ℕ → List ℕ → List ℕ
only_node ways start targets = headed 1 0 ways start ++ read_block 0 targets

-- Node 0 reads block 0 and leads to itself; node 1, to which no arrow leads, reads block 0 and leads to 2, which reads block 1 and leads to node 0.
abbrev pub from_nowhere : List ℕ
from_nowhere = headed 3 0 1 0 ++ read_block 0 (0 ∷ []) ++ read_block 0 (2 ∷ []) ++ read_block 1 (0 ∷ [])

-- A table of it that marks all three nodes and says nothing of any block: it passes.
abbrev pub all_marked : Lent
all_marked = record { must = replicate 6 1; may = replicate 6 0; marks = 1 ∷ 1 ∷ 1 ∷ [] }

-- Blocks 1 and 2 on one way and nothing on the other, and then four bytes at 0x0E: blocks 0 and 1.
abbrev pub sees_first : ℕ → List ℕ
sees_first ways =
    headed 5 0 ways 0
    ++ step_to (1 ∷ 2 ∷ [])
    ++ read_block 1 (3 ∷ [])
    ++ step_to (4 ∷ [])
    ++ read_block 2 (4 ∷ [])
    ++ read_from 0x0E 2 []

-- The classes of a chart of so many nodes and blocks, and what its own table comes to with 1 for a hit and 10 for a miss.
abbrev pub classes_out : ℕ → ℕ → List ℕ → List ℕ
classes_out nodes blocks bytes = (settled_in nodes blocks bytes).classes

abbrev pub totals_out : ℕ → ℕ → List ℕ → List ℕ → List ℕ → List ℕ
totals_out nodes blocks bytes floors ceilings = totalling bytes (table_in (settled_in nodes blocks bytes)) (figures_with 1 10 floors ceilings)

-- Four turns of the first loop.
abbrev pub four_turns : List ℕ
four_turns = 1 ∷ 0 ∷ 2 ∷ 0 ∷ 1 ∷ 0 ∷ 1 ∷ []

-- How many passes a block takes.
abbrev pub passes_made : {X : Type 0} → Outcome X → ℕ
passes_made (settled passes table) = passes
passes_made spent = 0

abbrev pub kept_count : List ℕ → ℕ → ℕ
kept_count bytes column = passes_made (settle (kept_flow (plan_of (chart_in bytes)) column) (kept_passes (plan_of (chart_in bytes))))

-- A table of one block that has the same at every node.
abbrev pub evenly : ℕ → Since → List (Cell Since)
evenly nodes since = replicate nodes (holds since)

-- 1 if it passes, and 0 if it does not.
abbrev pub tried_as : List ℕ → ℕ → List (Cell Since) → ℕ
tried_as bytes column table = cond (block_passing (plan_of (chart_in bytes)) column table) 1 0

-- ---- passes, and tables that are tried

abbrev pub staying_passes : List Sounding
staying_passes =
    -- each block has its own count
    ((kept_count loop_chart 0 ∷ kept_count (two_nodes 1 1) 0 ∷ kept_count (only_node 1 0 []) 0 ∷ []) reads (2 ∷ 3 ∷ 1 ∷ []))
    ∷ ((kept_count (either_other 2 1) 0 ∷ kept_count (either_other 2 1) 1 ∷ kept_count (either_other 2 1) 2 ∷ []) reads (2 ∷ 4 ∷ 4 ∷ []))
    -- of block 0 there: the table that passes settle at, and one that has more everywhere
    ∷ ((tried_as (either_other 2 1) 0 (kept_table (plan_of (chart_in (either_other 2 1))) 0)
    ∷ tried_as (either_other 2 1) 0 (evenly 4 (record { touched = true; others = false ∷ true ∷ true ∷ [] }))
    ∷ []) reads (1 ∷ 1 ∷ []))
    -- too little in a set, not touched, the block itself in its set, a flag that is missing, a node that is missing, and nothing at the entry
    ∷ ((tried_as (either_other 2 1) 0 (evenly 4 (record { touched = true; others = false ∷ true ∷ false ∷ [] }))
    ∷ tried_as (either_other 2 1) 0 (evenly 4 (record { touched = false; others = false ∷ true ∷ true ∷ [] }))
    ∷ tried_as (either_other 2 1) 0 (evenly 4 (record { touched = true; others = true ∷ true ∷ true ∷ [] }))
    ∷ tried_as (either_other 2 1) 0 (evenly 4 (record { touched = true; others = false ∷ true ∷ [] }))
    ∷ tried_as (either_other 2 1) 0 (evenly 3 (record { touched = true; others = false ∷ true ∷ true ∷ [] }))
    ∷ tried_as (either_other 2 1) 0 (replicate 4 blank)
    ∷ []) reads (0 ∷ 0 ∷ 0 ∷ 0 ∷ 0 ∷ 0 ∷ []))
    ∷ []

-- ---- classes

abbrev pub staying : List Sounding
staying =
    -- two nodes that touch one block: both are kept, from either start
    (classes_out 3 1 (two_nodes 1 1) reads alone (4 ∷ 5 ∷ 5 ∷ []))
    ∷ (classes_out 3 1 (two_nodes 2 0) reads alone (4 ∷ 5 ∷ 5 ∷ []))
    -- a kept and an unsure touch of block 0, one way; with two it hits the second time
    ∷ (classes_out 4 2 (perhaps_other 1 0) reads alone (5 ∷ 4 ∷ 2 ∷ 3 ∷ []))
    ∷ (classes_out 4 2 (perhaps_other 2 0) reads alone (5 ∷ 4 ∷ 5 ∷ 1 ∷ []))
    -- where two walks meet: one has touched the block, and nothing of its set since; the other has not, and what it touched does not count
    ∷ (classes_out 4 2 (one_of_two 1 0) reads alone (4 ∷ 5 ∷ 5 ∷ 5 ∷ []))
    -- each has touched one other block, so that two are in the set: as many as there are ways, or fewer
    ∷ (classes_out 4 3 (either_other 2 1) reads alone (3 ∷ 3 ∷ 3 ∷ 4 ∷ []))
    ∷ (classes_out 4 3 (either_other 3 1) reads alone (5 ∷ 5 ∷ 5 ∷ 4 ∷ []))
    -- one node, unknown and empty, and one that leads to itself
    ∷ ((classes_out 1 1 (only_node 1 0 []) ++ classes_out 1 1 (only_node 1 1 []) ++ classes_out 1 1 (only_node 1 1 (0 ∷ []))) reads alone (5 ∷ 2 ∷ 5 ∷ []))
    -- what no walk reaches is added to no set
    ∷ (classes_out 3 2 from_nowhere reads alone (5 ∷ 0 ∷ 0 ∷ []))
    -- the second touch sees the first: with two ways block 2 and then block 0 are in the set of block 1, and with three both are fewer
    ∷ (classes_out 5 3 (sees_first 2) reads alone (4 ∷ 5 ∷ 4 ∷ 5 ∷ []) ++ 5 ∷ 3 ∷ [])
    ∷ (classes_out 5 3 (sees_first 3) reads alone (4 ∷ 5 ∷ 4 ∷ 5 ∷ []) ++ 5 ∷ 5 ∷ [])
    -- blocks of two cache sets are in no set of each other
    ∷ (classes_out 3 2 (word_loop 1 1 1) reads (5 ∷ 5 ∷ 1 ∷ 4 ∷ 0 ∷ 0 ∷ []))
    -- both blocks of one reference, which throw each other out
    ∷ (classes_out 3 2 (word_loop 0 1 0) reads (3 ∷ 2 ∷ 2 ∷ 4 ∷ 0 ∷ 0 ∷ []))
    ∷ []

-- ---- what they cost

abbrev pub staying_paid : List Sounding
staying_paid =
    -- two nodes, five visits of each at most: ten hits and one difference, not two
    (totals_out 3 1 (two_nodes 1 1) (0 ∷ 0 ∷ 0 ∷ []) (9 ∷ 5 ∷ 5 ∷ []) reads (0 ∷ 0 ∷ 0 ∷ 19 ∷ []))
    -- no difference for a block whose kept touches have ceiling 0, and one if any of them has another
    ∷ (totals_out 3 1 (two_nodes 1 1) (0 ∷ 0 ∷ 0 ∷ []) (9 ∷ 0 ∷ 0 ∷ []) reads (0 ∷ 0 ∷ 0 ∷ 0 ∷ []))
    ∷ (totals_out 3 1 (two_nodes 1 1) (0 ∷ 0 ∷ 0 ∷ []) (9 ∷ 0 ∷ 1 ∷ []) reads (0 ∷ 0 ∷ 0 ∷ 10 ∷ []))
    -- what a loop of four turns pays: one miss, whichever way it takes
    ∷ ((cost_of (chart_in (two_nodes 1 1)) 1 10 four_turns empty_cache ∷ []) reads (13 ∷ []))
    -- and that one is a kept touch of block 0, by the table as by the classes; block 1 has none
    ∷ ((kept_misses (chart_in (two_nodes 1 1)) (table_in (settled_in 3 1 (two_nodes 1 1))) 0 four_turns empty_cache
    ∷ read_misses (chart_in (two_nodes 1 1)) (settled_in 3 1 (two_nodes 1 1)).classes 0 four_turns empty_cache
    ∷ read_misses (chart_in (two_nodes 1 1)) (settled_in 3 1 (two_nodes 1 1)).classes 1 four_turns empty_cache
    ∷ []) reads (1 ∷ 1 ∷ 0 ∷ []))
    -- the low total counts a kept touch as a hit
    ∷ (totals_out 1 1 (only_node 1 1 (0 ∷ [])) (7 ∷ []) (7 ∷ []) reads (0 ∷ 0 ∷ 7 ∷ 16 ∷ []))
    ∷ []

-- Where two blocks are touched, and by a table that marks more than walks reach.
abbrev pub staying_apart : List Sounding
staying_apart =
    -- a kept and an unsure touch of one block: the unsure one is charged as a miss each time
    (totals_out 4 2 (perhaps_other 1 0) (1 ∷ 1 ∷ 0 ∷ 1 ∷ []) (1 ∷ 1 ∷ 1 ∷ 1 ∷ []) reads (0 ∷ 0 ∷ 2 ∷ 30 ∷ []))
    -- a table that marks nodes that no walk reaches: they are kept, and charged by their own ceilings; node 0 stays kept
    ∷ (checking from_nowhere all_marked reads (0 ∷ 1 ∷ []))
    ∷ (totalling from_nowhere all_marked (figures_with 1 10 (1 ∷ 0 ∷ 0 ∷ []) (10 ∷ 0 ∷ 0 ∷ [])) reads (0 ∷ 0 ∷ 1 ∷ 19 ∷ []))
    ∷ (totalling from_nowhere all_marked (figures_with 1 10 (1 ∷ 0 ∷ 0 ∷ []) (10 ∷ 10 ∷ 10 ∷ [])) reads (0 ∷ 0 ∷ 1 ∷ 48 ∷ []))
    ∷ []
