-- Soundings of the reader and of what it reads by: a header and a record in which no two fields can change places unseen (they are no chart's:
-- entry and arrows are not below N), a bare step, a read and a write, the limits of N, of the entry and of the blocks from both sides (rules 1.2, 1.4,
-- 3.4, 11.5, 11.6, 11.8 and 11.10), two arrows to one node, and what looks alike and is allowed (rule 2.9).
-- Nothing here is a rule of the tool: these are examples, and `chart_sounded` in proofs/Sounded.antt holds the definitions to them (`ChartSounded`).
use Rattle.std.specs.Prelude.{ℕ, ◌+◌, ◌*◌, ◌-◌, ◌/◌, ◌%◌, cond, List, [], ◌∷◌, ◌++◌, map, replicate, set, None, Option, Some}
use Rattle.lists.specs.Lists.{list_of, joined}
use Rattle.lists.specs.Soundings.{Sounding, ◌reads◌}
use Rattle.chart.specs.declared.shape.Geometry.{Geometry}
use Rattle.chart.specs.declared.records.Node.{Node}
use Rattle.chart.specs.Layout.{word_at}
use Rattle.chart.specs.Header.{header_numbers, header_in, read_header_says}
use Rattle.chart.specs.Record.{Touch, record_fields, record_keeps, arrows_of, touches_of}
use Rattle.chart.specs.Chart.{node_at}
use Rattle.chart.specs.Reading.{read_says}
use Rattle.chart.specs.declared.records.Reference.{Reference}

-- ---- what is read off

-- A bare step is 0; a read is 1 and a write 2, each with the addresses of its first and its last byte.
abbrev pub record_out : Option Reference → List ℕ
record_out None = 0 ∷ []
record_out (Some reference) = cond reference.write 2 1 ∷ reference.address ∷ reference.last ∷ []

-- What the node does, then the number of its arrows and their two fields.
abbrev pub node_out : Node Reference → List ℕ
node_out node =
    record_out node.what ++ node.targets.outs ∷ node.targets.first ∷ node.targets.second ∷ []

-- For each touch 1 for a read and 2 for a write, and the block.
abbrev pub touches_out : List Touch → List ℕ
touches_out touches = joined (map (λ (touch : Touch). cond touch.write 2 1 ∷ touch.block ∷ []) touches)

-- The reader's number, place and B.
abbrev pub read_out : List ℕ → List ℕ
read_out bytes = (read_says bytes).number ∷ (read_says bytes).place ∷ (read_says bytes).blocks ∷ []

-- ---- what is read

-- L 5, S 3, A 6, an empty start, N 255, entry 0x123; the same with an unknown start.
abbrev pub empty_header : List ℕ
empty_header = 0x01 ∷ 0x53 ∷ 0x64 ∷ 0x00 ∷ 0x0F ∷ 0xF1 ∷ 0x23 ∷ 0x00 ∷ []

abbrev pub unknown_header : List ℕ
unknown_header = 0x01 ∷ 0x53 ∷ 0x60 ∷ 0x00 ∷ 0x0F ∷ 0xF1 ∷ 0x23 ∷ 0x00 ∷ []

-- Under it, address 0xDEADBEEF read, one byte (node 0), written, two bytes (node 1), and in a bare step, which may not have one (node 2); two arrows,
-- to 0x123 and to 0x456.
abbrev pub three_kinds : List ℕ
three_kinds =
    empty_header
    ++ 0x77 ∷ 0xAB ∷ 0x6F ∷ 0xBB ∷ 0xE1 ∷ 0x23 ∷ 0x45 ∷ 0x60
    ∷ 0xB7 ∷ 0xAB ∷ 0x6F ∷ 0xBB ∷ 0xE1 ∷ 0x23 ∷ 0x45 ∷ 0x61
    ∷ 0x37 ∷ 0xAB ∷ 0x6F ∷ 0xBB ∷ 0xE1 ∷ 0x23 ∷ 0x45 ∷ 0x60
    ∷ []

abbrev pub long_lines : Geometry
long_lines = record { line = 8; sets = 3; ways = 6 }

-- Each bit of a field of twelve alone, and all of them.
abbrev pub twelve_bits : List ℕ
twelve_bits = 1 ∷ 2 ∷ 4 ∷ 8 ∷ 16 ∷ 32 ∷ 64 ∷ 128 ∷ 256 ∷ 512 ∷ 1024 ∷ 2048 ∷ 4095 ∷ []

-- A header alone, of so many nodes and with this entry.
abbrev pub header_with : ℕ → ℕ → List ℕ
header_with nodes entry = 0x01 ∷ 0x20 ∷ 0x20 ∷ 0x00 ∷ (nodes / 16) ∷ (nodes % 16 * 16 + entry / 256) ∷ (entry % 256) ∷ 0x00 ∷ []

-- The same with entry 0.
abbrev pub header_alone : ℕ → List ℕ
header_alone nodes = header_with nodes 0

-- So many nodes without arrows; node 0 reads block 0, node 1 too, and node n block n - 1.
abbrev pub many_blocks : ℕ → List ℕ
many_blocks nodes =
    header_alone nodes
    ++ joined (list_of nodes (λ n. 0x40 ∷ 0x00 ∷ 0x00 ∷ (n - 1) ∷ 0x00 ∷ 0x00 ∷ 0x00 ∷ 0x00 ∷ []))

-- A bare step (0), a read of 0x10 (1) or a write of 0x20 (2), with so many arrows, and with these numbers in the fields of the two targets.
abbrev pub node_to : ℕ → ℕ → ℕ → ℕ → List ℕ
node_to kind outs first second =
    (kind * 64) ∷ 0x00 ∷ 0x00 ∷ (kind * 4) ∷ (outs * 16 + first / 256) ∷ (first % 256) ∷ (second / 16) ∷ (second % 16 * 16) ∷ []

abbrev pub step_to : ℕ → ℕ → ℕ → List ℕ
step_to outs first second = node_to 0 outs first second

-- A step that ends, and one that breaks another rule: its size code is 1.
abbrev pub ends : List ℕ
ends = step_to 0 0 0

abbrev pub broken_step : List ℕ
broken_step = 0x00 ∷ 0x00 ∷ 0x00 ∷ 0x00 ∷ 0x00 ∷ 0x00 ∷ 0x00 ∷ 0x01 ∷ []

abbrev pub three_nodes : List ℕ → List ℕ → List ℕ → List ℕ
three_nodes node0 node1 node2 = header_alone 3 ++ node0 ++ node1 ++ node2

-- What the reader says of three nodes, and of so many steps that end and one more with two arrows.
abbrev pub read_three : List ℕ → List ℕ → List ℕ → List ℕ
read_three node0 node1 node2 = read_out (three_nodes node0 node1 node2)

abbrev pub read_fork : ℕ → ℕ → ℕ → List ℕ
read_fork before first second = read_out (header_alone (before + 1) ++ replicate (8 * before) 0x00 ++ step_to 2 first second)

-- Whether a step with two arrows keeps its rules among as many nodes as a field can count: 1 for yes.
abbrev pub fork_keeps : ℕ → ℕ → ℕ
fork_keeps first second = cond (record_keeps 4096 (record_fields (word_at (step_to 2 first second) 0))) 1 0

abbrev pub twin_arrows : List Sounding
twin_arrows =
    -- two arrows to node 1 are refused at the node that they lead out of, of each kind, and at node 1 itself
    (read_three (step_to 2 1 1) ends ends reads (9 ∷ 0 ∷ 0 ∷ []))
    ∷ (read_three ends ends (node_to 1 2 1 1) reads (9 ∷ 2 ∷ 0 ∷ []))
    ∷ (read_three ends ends (node_to 2 2 1 1) reads (9 ∷ 2 ∷ 0 ∷ []))
    ∷ (read_three ends (step_to 2 1 1) ends reads (9 ∷ 1 ∷ 0 ∷ []))
    -- also to node 0, where the two fields are 0 as in a node without arrows, to the last node, where there is one node, and where there are more
    ∷ (read_three ends ends (step_to 2 0 0) reads (9 ∷ 2 ∷ 0 ∷ []))
    ∷ (read_three ends (step_to 2 2 2) ends reads (9 ∷ 1 ∷ 0 ∷ []))
    ∷ (read_fork 0 0 0 reads (9 ∷ 0 ∷ 0 ∷ []))
    ∷ (read_fork 17 17 17 reads (9 ∷ 17 ∷ 0 ∷ []))
    -- the first node that breaks a rule is told: another rule broken at an earlier node, at a later one; twins at two nodes
    ∷ (read_three broken_step (step_to 2 1 1) ends reads (9 ∷ 0 ∷ 0 ∷ []))
    ∷ (read_three ends (step_to 2 1 1) broken_step reads (9 ∷ 1 ∷ 0 ∷ []))
    ∷ (read_three ends (step_to 2 0 0) (step_to 2 1 1) reads (9 ∷ 1 ∷ 0 ∷ []))
    -- a length that is wrong is told before them, too many blocks are not: node 65 brings the 65th, and has two arrows to node 0
    ∷ (read_out (three_nodes (step_to 2 1 1) ends ends ++ 0x00 ∷ []) reads (8 ∷ 0 ∷ 0 ∷ []))
    ∷ (read_out (set (many_blocks 66) (8 + 8 * 65 + 4) 0x20) reads (9 ∷ 65 ∷ 0 ∷ []))
    -- allowed: no arrow; one to node 0 beside an unused 0, of each kind; one to the node itself
    ∷ (read_three ends ends ends reads (0 ∷ 0 ∷ 0 ∷ []))
    ∷ (read_three (step_to 1 0 0) (node_to 1 1 0 0) (node_to 2 1 0 0) reads (0 ∷ 0 ∷ 2 ∷ []))
    ∷ (read_three ends ends (step_to 1 2 0) reads (0 ∷ 0 ∷ 0 ∷ []))
    -- allowed: to the node itself and elsewhere, in both orders; from two nodes to one; to nodes that are further apart
    ∷ (read_three ends (step_to 2 1 2) (step_to 2 0 2) reads (0 ∷ 0 ∷ 0 ∷ []))
    ∷ (read_three (step_to 2 1 2) (step_to 2 2 1) ends reads (0 ∷ 0 ∷ 0 ∷ []))
    ∷ (read_fork 3 3 0 reads (0 ∷ 0 ∷ 0 ∷ []))
    ∷ (read_fork 17 1 17 reads (0 ∷ 0 ∷ 0 ∷ []))
    -- every bit of a target counts: none makes two of them alike, and none makes one differ from itself
    ∷ (map (fork_keeps 0) twelve_bits reads replicate 13 1)
    ∷ (map (λ target. fork_keeps target target) twelve_bits reads replicate 13 0)
    ∷ []

abbrev pub chart_fields : List Sounding
chart_fields =
    (header_numbers (header_in empty_header) reads (5 ∷ 3 ∷ 6 ∷ 1 ∷ 255 ∷ 0x123 ∷ []))
    ∷ (header_numbers (header_in unknown_header) reads (5 ∷ 3 ∷ 6 ∷ 0 ∷ 255 ∷ 0x123 ∷ []))
    -- what `node_at` answers: the kind, the addresses of the first and the last byte of a read and of a write, and the arrows
    ∷ (node_out (node_at three_kinds 0) reads (1 ∷ 0xDEADBEEF ∷ 0xDEADBEEF ∷ 2 ∷ 0x123 ∷ 0x456 ∷ []))
    ∷ (node_out (node_at three_kinds 1) reads (2 ∷ 0xDEADBEEF ∷ 0xDEADBEF0 ∷ 2 ∷ 0x123 ∷ 0x456 ∷ []))
    ∷ (node_out (node_at three_kinds 2) reads (0 ∷ 2 ∷ 0x123 ∷ 0x456 ∷ []))
    -- a read of one byte and a write of two, both within one line, touch the block that they lie in; a bare step touches none
    ∷ (touches_out (touches_of long_lines (node_at three_kinds 0).what) reads (1 ∷ 0xDEADBE ∷ []))
    ∷ (touches_out (touches_of long_lines (node_at three_kinds 1).what) reads (2 ∷ 0xDEADBE ∷ []))
    ∷ (touches_out (touches_of long_lines (node_at three_kinds 2).what) reads [])
    ∷ (arrows_of (node_at three_kinds 1).targets reads (0x123 ∷ 0x456 ∷ []))
    ∷ []

-- The number of the refusal of so many nodes, and of 1,024 nodes with this entry, where their records are missing.
abbrev pub number_for : ℕ → ℕ
number_for nodes = (read_says (header_alone nodes)).number

abbrev pub number_for_entry : ℕ → ℕ
number_for_entry entry = (read_says (header_with 1024 entry)).number

-- How many nodes a chart may have, and which its entry may be, from both sides. With its records missing, a header that is right has the wrong length, refusal 8.
abbrev pub node_counts : List Sounding
node_counts =
    -- 1,024 nodes are not too many; 1,025 are, and so is none
    (read_out (header_alone 1024) reads (8 ∷ 0 ∷ 0 ∷ []))
    ∷ (read_out (header_alone 1025) reads (5 ∷ 0 ∷ 0 ∷ []))
    ∷ (read_out (header_alone 0) reads (5 ∷ 0 ∷ 0 ∷ []))
    -- fewer: each lower bit alone, 257 and 900, and all lower bits
    ∷ (map number_for (1 ∷ 2 ∷ 4 ∷ 8 ∷ 16 ∷ 32 ∷ 64 ∷ 128 ∷ 256 ∷ 512 ∷ 257 ∷ 900 ∷ 1023 ∷ []) reads replicate 13 8)
    -- more: each lower bit beside the limit's own, and all of them; the one bit above it, alone and beside it; and the most that the field can hold
    ∷ (map number_for (1025 ∷ 1026 ∷ 1028 ∷ 1032 ∷ 1040 ∷ 1056 ∷ 1088 ∷ 1152 ∷ 1280 ∷ 1536 ∷ 2047 ∷ 2048 ∷ 3072 ∷ 4095 ∷ []) reads replicate 14 5)
    -- every bit of N and of the entry is read
    ∷ (map (λ nodes. (header_in (header_alone nodes)).nodes) twelve_bits reads twelve_bits)
    ∷ (map (λ entry. (header_in (header_with 1024 entry)).entry) twelve_bits reads twelve_bits)
    -- entries of 1,024 nodes: each lower bit alone, and all of them; then the first that is none, and others above it
    ∷ (map number_for_entry (1 ∷ 2 ∷ 4 ∷ 8 ∷ 16 ∷ 32 ∷ 64 ∷ 128 ∷ 256 ∷ 512 ∷ 1023 ∷ []) reads replicate 11 8)
    ∷ (map number_for_entry (1024 ∷ 1025 ∷ 1536 ∷ 2047 ∷ 2048 ∷ 3072 ∷ 4095 ∷ []) reads replicate 7 6)
    -- entry 1,025 of 1,025 nodes: 5 is told before 6
    ∷ (read_out (header_with 1025 1025) reads (5 ∷ 0 ∷ 0 ∷ []))
    -- with all their records, bare steps: of 1,024 the header is accepted (to read so many records takes the prover too many steps), 1,025 are refused
    ∷ ((read_header_says (header_alone 1024 ++ replicate 8192 0x00)).header reads (2 ∷ 0 ∷ 2 ∷ 0 ∷ 1024 ∷ 0 ∷ []))
    ∷ (read_out (header_alone 1025 ++ replicate 8200 0x00) reads (5 ∷ 0 ∷ 0 ∷ []))
    ∷ []
