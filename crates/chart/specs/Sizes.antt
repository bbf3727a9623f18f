-- Soundings of references of one, two and four bytes: what they touch within a line, at its end and across it, for short and long lines and at both ends
-- of the addresses; which size codes and last bytes are refused; and the limit of the blocks, where one node brings two of them.
-- Nothing here is a rule of the tool: it is what rules 2.1, 2.10 to 2.12, 3.3, 3.4, 11.9 and 11.10 come to. `ChartSounded` holds the definitions to it.
use Rattle.std.specs.Prelude.{ℕ, ◌+◌, ◌*◌, ◌/◌, ◌%◌, List, [], ◌∷◌, ◌++◌, map, replicate}
use Rattle.lists.specs.Lists.{list_of, joined}
use Rattle.lists.specs.Soundings.{Sounding, ◌reads◌}
use Rattle.chart.specs.Chart.{chart_in, touches}
use Rattle.chart.specs.Reading.{read_says}
use Rattle.chart.specs.Sounded.{touches_out, read_out, header_alone, ends, three_nodes}

-- ---- a reference

-- A node without arrows: a bare step (0), a read (1) or a write (2) from an address on, of this size code.
abbrev pub refer_to : ℕ → ℕ → ℕ → List ℕ
refer_to kind address size =
    (kind * 64 + address / 67108864) ∷ (address / 262144 % 256) ∷ (address / 1024 % 256) ∷ (address / 4 % 256) ∷ (address % 4 * 64) ∷ 0x00 ∷ 0x00 ∷ size ∷ []

-- A chart of this node alone, with lines of 2^line bytes.
abbrev pub refers_alone : ℕ → ℕ → ℕ → ℕ → List ℕ
refers_alone line kind address size = 0x01 ∷ (line * 16) ∷ 0x10 ∷ 0x00 ∷ 0x00 ∷ 0x10 ∷ 0x00 ∷ 0x00 ∷ refer_to kind address size

-- What the node touches; and the same of a read.
abbrev pub touched_by : ℕ → ℕ → ℕ → ℕ → List ℕ
touched_by line kind address size = touches_out (touches (chart_in (refers_alone line kind address size)) 0)

abbrev pub reads_of : ℕ → ℕ → ℕ → List ℕ
reads_of line address size = touched_by line 1 address size

abbrev pub sized_touches : List Sounding
sized_touches =
    -- one, two and four bytes at 0x0E, in lines of 16 bytes: the four go into the next line, and the lower block comes first
    (reads_of 4 0x0E 0 reads (1 ∷ 0 ∷ []))
    ∷ (reads_of 4 0x0E 1 reads (1 ∷ 0 ∷ []))
    ∷ (reads_of 4 0x0E 2 reads (1 ∷ 0 ∷ 1 ∷ 1 ∷ []))
    -- the last byte of a line; the last place for four bytes, and the next; the next line's first byte
    ∷ (reads_of 4 0x0F 0 reads (1 ∷ 0 ∷ []))
    ∷ (reads_of 4 0x0F 1 reads (1 ∷ 0 ∷ 1 ∷ 1 ∷ []))
    ∷ (reads_of 4 0x0C 2 reads (1 ∷ 0 ∷ []))
    ∷ (reads_of 4 0x0D 2 reads (1 ∷ 0 ∷ 1 ∷ 1 ∷ []))
    ∷ (reads_of 4 0x10 2 reads (1 ∷ 1 ∷ []))
    -- a write touches both blocks too, and both touches are a write's
    ∷ (touched_by 4 2 0x0E 2 reads (2 ∷ 0 ∷ 2 ∷ 1 ∷ []))
    -- lines of 4 bytes: all four bytes of one, and each way across two
    ∷ (reads_of 2 0x00 2 reads (1 ∷ 0 ∷ []))
    ∷ (reads_of 2 0x01 2 reads (1 ∷ 0 ∷ 1 ∷ 1 ∷ []))
    ∷ (reads_of 2 0x03 2 reads (1 ∷ 0 ∷ 1 ∷ 1 ∷ []))
    ∷ (reads_of 2 0x03 1 reads (1 ∷ 0 ∷ 1 ∷ 1 ∷ []))
    -- lines of 256 bytes
    ∷ (reads_of 8 0xFC 2 reads (1 ∷ 0 ∷ []))
    ∷ (reads_of 8 0xFD 2 reads (1 ∷ 0 ∷ 1 ∷ 1 ∷ []))
    ∷ (reads_of 8 0xFF 1 reads (1 ∷ 0 ∷ 1 ∷ 1 ∷ []))
    -- the last bytes that there are, and the last two lines
    ∷ (reads_of 4 0xFFFFFFFC 2 reads (1 ∷ 0x0FFFFFFF ∷ []))
    ∷ (reads_of 2 0xFFFFFFFB 2 reads (1 ∷ 0x3FFFFFFE ∷ 1 ∷ 0x3FFFFFFF ∷ []))
    ∷ (reads_of 8 0xFFFFFEFF 1 reads (1 ∷ 0x00FFFFFE ∷ 1 ∷ 0x00FFFFFF ∷ []))
    ∷ []

-- ---- what is refused

-- The number that the reader says of this node alone.
abbrev pub number_for : ℕ → ℕ → ℕ → ℕ
number_for kind address size = (read_says (refers_alone 4 kind address size)).number

-- All size codes, and the three that there are.
abbrev pub sixteen : List ℕ
sixteen = list_of 16 (λ code. code)

abbrev pub three : List ℕ
three = 0 ∷ 1 ∷ 2 ∷ []

abbrev pub sizes_refused : List Sounding
sizes_refused =
    -- every code at a read, a write and a bare step
    (map (number_for 1 0x0E) sixteen reads (0 ∷ 0 ∷ 0 ∷ replicate 13 9))
    ∷ (map (number_for 2 0x0E) sixteen reads (0 ∷ 0 ∷ 0 ∷ replicate 13 9))
    ∷ (map (number_for 0 0) sixteen reads (0 ∷ replicate 15 9))
    -- the three codes at each of the last addresses: nothing may end past 0xFFFFFFFF
    ∷ (map (number_for 1 0xFFFFFFFF) three reads (0 ∷ 9 ∷ 9 ∷ []))
    ∷ (map (number_for 1 0xFFFFFFFE) three reads (0 ∷ 0 ∷ 9 ∷ []))
    ∷ (map (number_for 1 0xFFFFFFFD) three reads (0 ∷ 0 ∷ 9 ∷ []))
    ∷ (map (number_for 1 0xFFFFFFFC) three reads (0 ∷ 0 ∷ 0 ∷ []))
    ∷ (map (number_for 2 0xFFFFFFFF) three reads (0 ∷ 9 ∷ 9 ∷ []))
    ∷ (map (number_for 2 0xFFFFFFFD) three reads (0 ∷ 0 ∷ 9 ∷ []))
    -- the first such node is told
    ∷ (read_out (three_nodes ends (refer_to 1 0xFFFFFFFF 1) (refer_to 1 0 3)) reads (9 ∷ 1 ∷ 0 ∷ []))
    ∷ (read_out (three_nodes ends ends (refer_to 0 0 2)) reads (9 ∷ 2 ∷ 0 ∷ []))
    ∷ []

-- ---- the 64th and the 65th block

-- So many nodes that read a block each, from `first` on, in lines of 4 bytes; then one that reads four bytes at an address.
abbrev pub crowd : ℕ → ℕ → ℕ → List ℕ
crowd first count address =
    header_alone (count + 1) ++ joined (list_of count (λ n. refer_to 1 (4 * (first + n)) 0)) ++ refer_to 1 address 2

abbrev pub crowded : List Sounding
crowded =
    -- 62 blocks and two more; 63 and two more, the 64th and the 65th; 64 and two more
    (read_out (crowd 0 62 0xF9) reads (0 ∷ 0 ∷ 64 ∷ []))
    ∷ (read_out (crowd 0 63 0xFD) reads (10 ∷ 63 ∷ 0 ∷ []))
    ∷ (read_out (crowd 0 64 0x101) reads (10 ∷ 64 ∷ 0 ∷ []))
    -- of the two the lower is there already, and the upper is the 64th; the 65th; both are there
    ∷ (read_out (crowd 0 63 0xF9) reads (0 ∷ 0 ∷ 64 ∷ []))
    ∷ (read_out (crowd 0 64 0xFD) reads (10 ∷ 64 ∷ 0 ∷ []))
    ∷ (read_out (crowd 0 64 0x29) reads (0 ∷ 0 ∷ 64 ∷ []))
    -- the upper is there, and the lower is the 64th; the 65th
    ∷ (read_out (crowd 1 63 0x01) reads (0 ∷ 0 ∷ 64 ∷ []))
    ∷ (read_out (crowd 1 64 0x01) reads (10 ∷ 64 ∷ 0 ∷ []))
    ∷ []
