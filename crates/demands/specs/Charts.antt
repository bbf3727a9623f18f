-- The charts of the soundings, byte by byte. Nothing here is a rule of the tool: rules 1.2 and 2.1 say how the bytes are read. A read of an address a
-- that is a multiple of 4 and below 0x400 begins 40 00 00 a/4.
use Rattle.std.specs.Prelude.{ℕ, suc, List, [], ◌∷◌, ◌++◌}

-- ---- headers of three nodes with entry 0 and lines of 16 bytes

-- Two ways in one set, empty, and the same unknown; one way in one set, and one in each of two, both unknown.
abbrev pub one_set_two_ways_empty : List ℕ
one_set_two_ways_empty = 0x01 ∷ 0x40 ∷ 0x24 ∷ 0x00 ∷ 0x00 ∷ 0x30 ∷ 0x00 ∷ 0x00 ∷ []

abbrev pub one_set_two_ways : List ℕ
one_set_two_ways = 0x01 ∷ 0x40 ∷ 0x20 ∷ 0x00 ∷ 0x00 ∷ 0x30 ∷ 0x00 ∷ 0x00 ∷ []

abbrev pub one_set_one_way : List ℕ
one_set_one_way = 0x01 ∷ 0x40 ∷ 0x10 ∷ 0x00 ∷ 0x00 ∷ 0x30 ∷ 0x00 ∷ 0x00 ∷ []

abbrev pub two_sets_one_way : List ℕ
two_sets_one_way = 0x01 ∷ 0x41 ∷ 0x10 ∷ 0x00 ∷ 0x00 ∷ 0x30 ∷ 0x00 ∷ 0x00 ∷ []

-- S 1 and A 2, and the two fields swapped: two sets of two ways, unknown; four sets of one way, unknown.
abbrev pub two_sets_two_ways : List ℕ
two_sets_two_ways = 0x01 ∷ 0x41 ∷ 0x20 ∷ 0x00 ∷ 0x00 ∷ 0x30 ∷ 0x00 ∷ 0x00 ∷ []

abbrev pub four_sets_one_way : List ℕ
four_sets_one_way = 0x01 ∷ 0x42 ∷ 0x10 ∷ 0x00 ∷ 0x00 ∷ 0x30 ∷ 0x00 ∷ 0x00 ∷ []

-- ---- charts

-- The loop of docs/RULES.md: node 0 is a bare step; node 1 reads block 0 and goes to itself or on; node 2 reads it once more.
abbrev pub loop_chart : List ℕ
loop_chart =
    one_set_two_ways_empty
    ++ 0x00 ∷ 0x00 ∷ 0x00 ∷ 0x00 ∷ 0x10 ∷ 0x01 ∷ 0x00 ∷ 0x00
    ∷ 0x40 ∷ 0x00 ∷ 0x00 ∷ 0x00 ∷ 0x20 ∷ 0x01 ∷ 0x00 ∷ 0x20
    ∷ 0x40 ∷ 0x00 ∷ 0x00 ∷ 0x00 ∷ 0x00 ∷ 0x00 ∷ 0x00 ∷ 0x00
    ∷ []

-- Its report, a line here for each of its lines: three nodes, one block, two passes; the first node none none, the next kept none, the last
-- hit none.
abbrev pub loop_report : List ℕ
loop_report =
    110 ∷ 111 ∷ 100 ∷ 101 ∷ 115 ∷ 32 ∷ 51 ∷ 32 ∷ 98 ∷ 108 ∷ 111 ∷ 99 ∷ 107 ∷ 115 ∷ 32 ∷ 49 ∷ 32 ∷ 112 ∷ 97 ∷ 115 ∷ 115 ∷ 101 ∷ 115 ∷ 32 ∷ 50 ∷ 10
    ∷ 48 ∷ 32 ∷ 110 ∷ 111 ∷ 110 ∷ 101 ∷ 32 ∷ 110 ∷ 111 ∷ 110 ∷ 101 ∷ 10
    ∷ 49 ∷ 32 ∷ 107 ∷ 101 ∷ 112 ∷ 116 ∷ 32 ∷ 110 ∷ 111 ∷ 110 ∷ 101 ∷ 10
    ∷ 50 ∷ 32 ∷ 104 ∷ 105 ∷ 116 ∷ 32 ∷ 110 ∷ 111 ∷ 110 ∷ 101 ∷ 10
    ∷ []

-- Nodes of one kind (0x00 for bare steps, 0x40 for reads, 0x80 for writes) that lead each to the next and refer to one byte each, at four times a number of the list;
-- `next` is the number of the second of them.
abbrev pub chain : ℕ → ℕ → List ℕ → List ℕ
chain kind next [] = []
chain kind next (a ∷ []) = kind ∷ 0x00 ∷ 0x00 ∷ a ∷ 0x00 ∷ 0x00 ∷ 0x00 ∷ 0x00 ∷ []
chain kind next (a ∷ b ∷ l) =
    kind ∷ 0x00 ∷ 0x00 ∷ a ∷ 0x10 ∷ next ∷ 0x00 ∷ 0x00 ∷ chain kind (suc next) (b ∷ l)

-- Three nodes of one kind: of addresses 4 times `ends`, 4 times `middle` and 4 times `ends` again.
abbrev pub straight_of : ℕ → List ℕ → ℕ → ℕ → List ℕ
straight_of kind header ends middle = header ++ chain kind 1 (ends ∷ middle ∷ ends ∷ [])

-- Three reads in a row: of 0x00, of 4 times `middle`, and of 0x00 again.
abbrev pub straight_chart : List ℕ → ℕ → List ℕ
straight_chart header middle = straight_of 0x40 header 0x00 middle

-- The same of writes.
abbrev pub straight_writes : List ℕ → ℕ → List ℕ
straight_writes header middle = straight_of 0x80 header 0x00 middle

-- An entry with an arrow into it: one node that reads 0 and leads to itself; one set, two ways, empty.
abbrev pub entry_loop_chart : List ℕ
entry_loop_chart =
    0x01 ∷ 0x40 ∷ 0x24 ∷ 0x00 ∷ 0x00 ∷ 0x10 ∷ 0x00 ∷ 0x00
    ∷ 0x40 ∷ 0x00 ∷ 0x00 ∷ 0x00 ∷ 0x10 ∷ 0x00 ∷ 0x00 ∷ 0x00
    ∷ []
