-- Refusals 1 to 12 on charts that are written out: the loop chart damaged in one place at a time, lent too little, and allowed too few
-- passes; beside each kind one case with nothing wrong. Nothing here is a rule of the tool: it is what rules 11.1 to 11.9, 11.11, 11.12 and 12.3 come
-- to. `Sounded` of the crate `chart` has how many nodes there may be (rule 11.5), two arrows to one node (rule 2.9), and rule 11.10, which takes 65
-- blocks; its `Sizes` has the size codes and the last bytes (rules 2.11 and 2.12), and nodes that bring two blocks.
use Rattle.std.specs.Prelude.{ℕ, List, [], ◌∷◌, ◌++◌, replicate, set, take}
use Rattle.lists.specs.Soundings.{Sounding, ◌reads◌}
use Rattle.chart.specs.Reading.{read_says}
use Rattle.analysis.specs.Analysis.{Buffers, analysed, analyse_says}
use Rattle.demands.specs.Charts.{loop_chart}

-- ---- 1 to 9, by the reader

abbrev pub read : List ℕ → List ℕ
read bytes = (read_says bytes).number ∷ (read_says bytes).place ∷ []

-- The number and the place that the reader says.
abbrev pub damaged : List Sounding
damaged =
    -- nothing wrong, and 1: seven bytes
    (read loop_chart reads (0 ∷ 0 ∷ []))
    ∷ (read (take 7 loop_chart) reads (1 ∷ 0 ∷ []))
    -- 2: edition 2; 3: L 1, S 9, A 0 and A 9; 4: start 2
    ∷ (read (set loop_chart 0 0x02) reads (2 ∷ 0 ∷ []))
    ∷ (read (set loop_chart 1 0x10) reads (3 ∷ 0 ∷ []))
    ∷ (read (set loop_chart 1 0x49) reads (3 ∷ 0 ∷ []))
    ∷ (read (set loop_chart 2 0x04) reads (3 ∷ 0 ∷ []))
    ∷ (read (set loop_chart 2 0x94) reads (3 ∷ 0 ∷ []))
    ∷ (read (set loop_chart 2 0x28) reads (4 ∷ 0 ∷ []))
    -- 5: no nodes; 6: entry 3; 7: a spare bit of each kind; 8: one byte less, one more
    ∷ (read (set loop_chart 5 0x00) reads (5 ∷ 0 ∷ []))
    ∷ (read (set loop_chart 6 0x03) reads (6 ∷ 0 ∷ []))
    ∷ (read (set loop_chart 3 0x01) reads (7 ∷ 0 ∷ []))
    ∷ (read (set loop_chart 7 0x80) reads (7 ∷ 0 ∷ []))
    ∷ (read (take 31 loop_chart) reads (8 ∷ 0 ∷ []))
    ∷ (read (loop_chart ++ 0x00 ∷ []) reads (8 ∷ 0 ∷ []))
    -- 9: kind 3 at node 2; a bare step with an address at node 0; an arrow to N at node 1; an unused arrow that is not 0 at node 2
    ∷ (read (set loop_chart 24 0xC0) reads (9 ∷ 2 ∷ []))
    ∷ (read (set loop_chart 11 0x04) reads (9 ∷ 0 ∷ []))
    ∷ (read (set loop_chart 23 0x30) reads (9 ∷ 1 ∷ []))
    ∷ (read (set loop_chart 29 0x01) reads (9 ∷ 2 ∷ []))
    -- three arrows at node 1; size code 3 at node 2; an unused second arrow at node 0
    ∷ (read (set loop_chart 20 0x30) reads (9 ∷ 1 ∷ []))
    ∷ (read (set loop_chart 31 0x03) reads (9 ∷ 2 ∷ []))
    ∷ (read (set loop_chart 15 0x10) reads (9 ∷ 0 ∷ []))
    -- L 9; L 2 and 8, S 8, A 8 are allowed
    ∷ (read (set loop_chart 1 0x90) reads (3 ∷ 0 ∷ []))
    ∷ (read (set loop_chart 1 0x20) reads (0 ∷ 0 ∷ []))
    ∷ (read (set loop_chart 1 0x80) reads (0 ∷ 0 ∷ []))
    ∷ (read (set loop_chart 1 0x48) reads (0 ∷ 0 ∷ []))
    ∷ (read (set loop_chart 2 0x84) reads (0 ∷ 0 ∷ []))
    ∷ []

-- ---- 11 and 12, by the analysis of the loop chart: three nodes, one block

abbrev pub analysing : ℕ → Buffers → List ℕ
analysing allowance lent =
    (analyse_says loop_chart allowance lent).number
    ∷ (analyse_says loop_chart allowance lent).place
    ∷ []

-- Buffers of these lengths, all sevens.
abbrev pub sevens : ℕ → ℕ → ℕ → ℕ → ℕ → Buffers
sevens blocks must may marks classes =
    record {
      blocks = replicate blocks 7;
      must = replicate must 7;
      may = replicate may 7;
      marks = replicate marks 7;
      classes = replicate classes 7;
    }

-- What one pass, which is not enough, leaves in buffers that are one longer than used.
abbrev pub unsettled : Buffers
unsettled = (analysed loop_chart 1 (sevens 2 4 4 4 7)).buffers

-- The number and the place that the analysis says, and what it leaves.
abbrev pub unanalysed : List Sounding
unanalysed =
    -- each buffer one short, then none
    (analysing 2 (sevens 0 3 3 3 6) reads (11 ∷ 0 ∷ []))
    ∷ (analysing 2 (sevens 1 2 3 3 6) reads (11 ∷ 0 ∷ []))
    ∷ (analysing 2 (sevens 1 3 2 3 6) reads (11 ∷ 0 ∷ []))
    ∷ (analysing 2 (sevens 1 3 3 2 6) reads (11 ∷ 0 ∷ []))
    ∷ (analysing 2 (sevens 1 3 3 3 5) reads (11 ∷ 0 ∷ []))
    ∷ (analysing 2 (sevens 1 3 3 3 6) reads (0 ∷ 0 ∷ []))
    -- 12: one pass allowed; the allowance and B, the block list, zeros, and each tail
    ∷ (analysing 1 (sevens 1 3 3 3 6) reads (12 ∷ 0 ∷ []))
    ∷ (((analyse_says loop_chart 1 (sevens 1 3 3 3 6)).passes ∷ (analyse_says loop_chart 1 (sevens 1 3 3 3 6)).blocks ∷ []) reads (1 ∷ 1 ∷ []))
    ∷ (unsettled.blocks reads (0 ∷ 7 ∷ []))
    ∷ (unsettled.must reads (0 ∷ 0 ∷ 0 ∷ 7 ∷ []))
    ∷ (unsettled.may reads (0 ∷ 0 ∷ 0 ∷ 7 ∷ []))
    ∷ (unsettled.marks reads (0 ∷ 0 ∷ 0 ∷ 7 ∷ []))
    ∷ (unsettled.classes reads (0 ∷ 0 ∷ 0 ∷ 0 ∷ 0 ∷ 0 ∷ 7 ∷ []))
    ∷ []
