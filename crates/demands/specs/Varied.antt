-- What is answered for certificates of more charts: an entry that is not node 0, a node of two touches, a class that is unsure, nodes that no walk reaches,
-- and many facts; and floors and ceilings as facts, beside the totals. Nothing here is a rule of the tool: it is what rules 10.2 to 10.4, 18.1 and
-- 18.3 to 18.9 come to.
use Rattle.std.specs.Prelude.{ℕ, ◌^◌, List, [], ◌∷◌, ◌++◌, map, ℤ, pos, set, replicate}
use Rattle.lists.specs.Soundings.{Sounding, ◌reads◌}
use Rattle.chart.specs.Chart.{chart_in}
use Rattle.cache.specs.Plain.{empty_cache}
use Rattle.facts.specs.declared.Side.TheVariants.{High, Low}
use Rattle.ages.specs.Charted.{plan_of}
use Rattle.machine.specs.Machine.{cost_of}
use Rattle.costs.specs.Costs.{Figures}
use Rattle.tables.specs.Lent.{Lent}
use Rattle.demands.specs.Charts.{loop_chart}
use Rattle.demands.specs.Soundings.{alone, loop, loop_figures}
use Rattle.demands.specs.Tabled.{loop_table, endless, endless_table, three, totalling, figures_with}
use Rattle.demands.specs.Straddling.{headed, settled_in, across_two, word_loop}
use Rattle.demands.specs.Staying.{step_to, read_block, from_nowhere, all_marked}
use Rattle.demands.specs.AsFacts.{visit_question}
use Rattle.demands.specs.Certifying.{minus, ask, says_of, branch, branch_table, branch_says}

-- ---- charts, each with the table that the analysis leaves

-- The chart charts/entry-in-a-ring.hex: node 1, the entry, reads block 0 and leads to node 0, which reads block 1 and leads back. Two ways, empty: both kept.
abbrev pub ring : List ℕ
ring = set (headed 2 0 2 1) 6 1 ++ read_block 1 (1 ∷ []) ++ read_block 0 (0 ∷ [])

abbrev pub ring_table : Lent
ring_table = record { must = 0 ∷ 2 ∷ 2 ∷ 2 ∷ []; may = 0 ∷ 1 ∷ 1 ∷ 0 ∷ []; marks = 1 ∷ 1 ∷ [] }

-- Four bytes over two lines: two misses in a row of nodes, and two that are kept in a loop, whose node 2 no walk reaches.
abbrev pub word_row : List ℕ
word_row = across_two 0 2 1

abbrev pub word_row_table : Lent
word_row_table = three (2 ∷ 2 ∷ 1 ∷ 0 ∷ 0 ∷ 1 ∷ []) (2 ∷ 2 ∷ 1 ∷ 0 ∷ 0 ∷ 1 ∷ []) (1 ∷ 1 ∷ 1 ∷ [])

abbrev pub words : List ℕ
words = word_loop 0 2 1

abbrev pub words_table : Lent
words_table = three (2 ∷ 2 ∷ 1 ∷ 0 ∷ 0 ∷ 0 ∷ []) (1 ∷ 0 ∷ 1 ∷ 0 ∷ 0 ∷ 0 ∷ []) (1 ∷ 1 ∷ 0 ∷ [])

-- The chart charts/class-unsure.hex: node 0 is unsure, since node 1, a miss, throws its block out, and node 2 does not. Two sets of one way, empty.
abbrev pub thrown_out : List ℕ
thrown_out = headed 3 1 1 1 ++ read_block 4 (1 ∷ 2 ∷ []) ++ read_block 6 (0 ∷ []) ++ step_to (0 ∷ [])

abbrev pub thrown_out_table : Lent
thrown_out_table = three (1 ∷ 1 ∷ 0 ∷ 1 ∷ 0 ∷ 1 ∷ []) (0 ∷ 0 ∷ 0 ∷ 1 ∷ 0 ∷ 1 ∷ []) (1 ∷ 1 ∷ 1 ∷ [])

-- Of `from_nowhere`, whose nodes 1 and 2 no walk reaches.
abbrev pub nowhere_table : Lent
nowhere_table = three (1 ∷ 1 ∷ 0 ∷ 0 ∷ 0 ∷ 0 ∷ []) (replicate 6 0) (1 ∷ 0 ∷ 0 ∷ [])

-- Node 0 ten times at most, with the largest potential at nodes 1 and 2.
abbrev pub ten_nowhere : List ℕ → Lent → List ℕ
ten_nowhere bytes table =
    says_of bytes table (ask High (pos 1 ∷ pos 0 ∷ pos 0 ∷ []) (pos 10 ∷ []) (pos 1 ∷ []) (pos 0 ∷ pos (2 ^ 60) ∷ pos (2 ^ 60) ∷ []) 1)

-- What is said of the loop without a way out, on the high side, with potentials 0 and this at node 2, which no walk reaches.
abbrev pub endless_says : List ℤ → List ℤ → List ℤ → ℤ → List ℕ
endless_says coefficients limits multipliers last =
    says_of endless endless_table (ask High coefficients limits multipliers (pos 0 ∷ pos 0 ∷ last ∷ []) 1)

-- Seven facts of its three nodes: six of no node, and the last, of node 1, with this limit and alone with a multiplier.
abbrev pub seventh : ℤ → List ℕ
seventh limit =
    endless_says (replicate 18 (pos 0) ++ pos 0 ∷ pos 1 ∷ pos 0 ∷ []) (replicate 6 (pos 0) ++ limit ∷ []) (replicate 6 (pos 0) ++ pos 1 ∷ []) (pos 0)

-- Such tables are the analysis's own, and the classes are those that are told above.
abbrev pub settled_so : List Sounding
settled_so =
    ((settled_in 2 2 ring).must reads ring_table.must)
    ∷ ((settled_in 2 2 ring).may reads ring_table.may)
    ∷ ((settled_in 3 2 words).must reads words_table.must)
    ∷ ((settled_in 3 2 words).may reads words_table.may)
    ∷ ((settled_in 3 2 thrown_out).must reads thrown_out_table.must)
    ∷ ((settled_in 3 2 thrown_out).may reads thrown_out_table.may)
    ∷ ((settled_in 3 2 from_nowhere).must reads nowhere_table.must)
    ∷ ((settled_in 3 2 from_nowhere).may reads nowhere_table.may)
    ∷ (((settled_in 2 2 ring).classes ++ (settled_in 3 2 thrown_out).classes) reads alone (5 ∷ 5 ∷ 3 ∷ 2 ∷ 4 ∷ []))
    ∷ []

-- ---- what is said

abbrev pub varied : List Sounding
varied =
    -- the ring ten times: 20 touches and two loads, as its walk costs; 25 at node 1 for the entry's own potential; and at node 0, for its arrow
    (says_of ring ring_table (ask High (pos 0 ∷ pos 1 ∷ []) (pos 10 ∷ []) (pos 2 ∷ []) (pos 0 ∷ minus 1 ∷ []) 1) reads (0 ∷ 0 ∷ 38 ∷ []))
    ∷ ((cost_of (chart_in ring) 1 10 (0 ∷ 1 ∷ 0 ∷ 1 ∷ 0 ∷ 1 ∷ 0 ∷ 1 ∷ 0 ∷ 1 ∷ 0 ∷ 1 ∷ 0 ∷ 1 ∷ 0 ∷ 1 ∷ 0 ∷ 1 ∷ 0 ∷ []) empty_cache ∷ []) reads (38 ∷ []))
    ∷ (says_of ring ring_table (ask High (pos 0 ∷ pos 1 ∷ []) (pos 10 ∷ []) (pos 2 ∷ []) (minus 1 ∷ minus 2 ∷ []) 1) reads (25 ∷ 1 ∷ 0 ∷ []))
    ∷ (says_of ring ring_table (ask High (pos 0 ∷ pos 1 ∷ []) (pos 10 ∷ []) (pos 2 ∷ []) (pos 1 ∷ minus 1 ∷ []) 1) reads (25 ∷ 0 ∷ 0 ∷ []))
    -- a node of two touches pays both: two misses in the row; three times in the loop, six hits and two loads. With one taken off, each turn costs more
    ∷ (says_of word_row word_row_table (ask High [] [] [] (pos 20 ∷ pos 21 ∷ pos 22 ∷ []) 1) reads (0 ∷ 0 ∷ 22 ∷ []))
    ∷ (says_of word_row word_row_table (ask High [] [] [] (pos 19 ∷ pos 21 ∷ pos 22 ∷ []) 1) reads (25 ∷ 0 ∷ 0 ∷ []))
    ∷ (says_of word_row word_row_table (ask Low [] [] [] (minus 20 ∷ minus 21 ∷ minus 22 ∷ []) 1) reads (0 ∷ 0 ∷ 20 ∷ []))
    ∷ (says_of words words_table (ask High (pos 1 ∷ pos 0 ∷ pos 0 ∷ []) (pos 3 ∷ []) (pos 2 ∷ []) (pos 0 ∷ pos 1 ∷ pos 0 ∷ []) 1) reads (0 ∷ 0 ∷ 25 ∷ []))
    ∷ ((cost_of (chart_in words) 1 10 (0 ∷ 0 ∷ 1 ∷ []) empty_cache ∷ []) reads (25 ∷ []))
    ∷ (says_of words words_table (ask High (pos 1 ∷ pos 0 ∷ pos 0 ∷ []) (pos 3 ∷ []) (pos 1 ∷ []) (pos 1 ∷ pos 2 ∷ pos 0 ∷ []) 1) reads (25 ∷ 0 ∷ 0 ∷ []))
    -- an unsure touch is a miss on the high side and a hit on the low one: node 0 three times at most, and three times at least
    ∷ (says_of thrown_out thrown_out_table (ask High (pos 1 ∷ pos 0 ∷ pos 0 ∷ []) (pos 3 ∷ []) (pos 20 ∷ []) (minus 10 ∷ pos 0 ∷ minus 10 ∷ []) 1) reads (0 ∷ 0 ∷ 60 ∷ []))
    ∷ (says_of thrown_out thrown_out_table (ask Low (minus 1 ∷ pos 0 ∷ pos 0 ∷ []) (minus 3 ∷ []) (pos 1 ∷ []) (pos 0 ∷ minus 10 ∷ pos 0 ∷ []) 1) reads (0 ∷ 0 ∷ 3 ∷ []))
    ∷ ((cost_of (chart_in thrown_out) 1 10 (1 ∷ 0 ∷ 1 ∷ 0 ∷ 1 ∷ []) empty_cache ∷ cost_of (chart_in thrown_out) 1 10 (2 ∷ 0 ∷ 2 ∷ 0 ∷ []) empty_cache ∷ []) reads (60 ∷ 12 ∷ []))
    -- an unmarked node: its potential is not counted, above or below; node 1 ten times at most, or no more often than node 2, which rules nothing out
    ∷ (endless_says (pos 0 ∷ pos 1 ∷ pos 0 ∷ []) (pos 10 ∷ []) (pos 1 ∷ []) (pos (2 ^ 60)) reads (0 ∷ 0 ∷ 19 ∷ []))
    ∷ (endless_says (pos 0 ∷ pos 1 ∷ pos 0 ∷ []) (pos 10 ∷ []) (pos 1 ∷ []) (minus (2 ^ 60)) reads (0 ∷ 0 ∷ 19 ∷ []))
    ∷ (endless_says (pos 0 ∷ pos 1 ∷ minus 1 ∷ []) (pos 0 ∷ []) (pos 1 ∷ []) (pos 0) reads (0 ∷ 0 ∷ 9 ∷ []))
    -- nor do its arrows ask for anything; where it is marked, they do
    ∷ (ten_nowhere from_nowhere nowhere_table reads (0 ∷ 0 ∷ 19 ∷ []))
    ∷ (ten_nowhere from_nowhere all_marked reads (25 ∷ 1 ∷ 0 ∷ []))
    -- the last of seven facts, and with a limit of 0 node 1 is ruled out
    ∷ (seventh (pos 10) reads (0 ∷ 0 ∷ 19 ∷ []))
    ∷ (seventh (pos 0) reads (0 ∷ 0 ∷ 0 ∷ []))
    ∷ []

-- ---- floors and ceilings as facts

-- The branch by ceilings alone.
abbrev pub branch_figures : Figures
branch_figures = figures_with 1 10 (replicate 6 0) (11 ∷ 10 ∷ 10 ∷ 10 ∷ 10 ∷ 1 ∷ [])

-- Of the facts of the ceilings alone, written out: the coefficients.
abbrev pub each_node : List ℤ
each_node =
    pos 1 ∷ pos 0 ∷ pos 0 ∷ pos 0 ∷ pos 0 ∷ pos 0
    ∷ pos 0 ∷ pos 1 ∷ pos 0 ∷ pos 0 ∷ pos 0 ∷ pos 0
    ∷ pos 0 ∷ pos 0 ∷ pos 1 ∷ pos 0 ∷ pos 0 ∷ pos 0
    ∷ pos 0 ∷ pos 0 ∷ pos 0 ∷ pos 1 ∷ pos 0 ∷ pos 0
    ∷ pos 0 ∷ pos 0 ∷ pos 0 ∷ pos 0 ∷ pos 1 ∷ pos 0
    ∷ pos 0 ∷ pos 0 ∷ pos 0 ∷ pos 0 ∷ pos 0 ∷ pos 1
    ∷ []

-- They come to the loop's totals, and to the branch's, where each side pays in full.
abbrev pub figures_as_facts : List Sounding
figures_as_facts =
    (says_of loop_chart loop_table (visit_question (plan_of loop) loop_table loop_figures High) reads (0 ∷ 0 ∷ 20 ∷ []))
    ∷ (says_of loop_chart loop_table (visit_question (plan_of loop) loop_table loop_figures Low) reads (0 ∷ 0 ∷ 2 ∷ []))
    ∷ (totalling branch branch_table branch_figures reads (0 ∷ 0 ∷ 0 ∷ 78 ∷ []))
    ∷ (branch_says each_node (map pos branch_figures.ceilings) (pos 1 ∷ pos 0 ∷ pos 1 ∷ pos 1 ∷ pos 1 ∷ pos 1 ∷ []) (replicate 6 (pos 0)) 1 reads (0 ∷ 0 ∷ 78 ∷ []))
    ∷ []
