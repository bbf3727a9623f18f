-- The cache's shape, the limits, and the block and the set of an address. Rules 1.2 to 1.4, 3.1, 3.2, 9.6 and 11.3.
-- Choices: the limits stand in the source too, as constants of `Geometry`, since a definition cannot name one; code that differs from these is
-- not proved. `block_of` and `set_of` answer for any shape.
use Rattle.std.specs.Prelude.{ℕ, ◌+◌, ◌*◌, ◌/◌, ◌%◌, ◌^◌, Bool, ◌&&◌, leb}
use Rattle.chart.specs.declared.shape.Geometry.{Geometry}
use Rattle.chart.specs.Layout.{chart_length}

-- Rule 1.4: the most nodes of a chart.
abbrev pub most_nodes : ℕ
most_nodes = 1024

-- Rule 1.4: the most blocks of a chart.
abbrev pub most_blocks : ℕ
most_blocks = 64

-- Rule 1.4: the most ways of a set.
abbrev pub most_ways : ℕ
most_ways = 8

-- Rule 1.4: the most touches of a node.
abbrev pub most_touches : ℕ
most_touches = 2

-- Rules 1.3 and 1.4: how many bytes the longest chart has.
abbrev pub longest_chart : ℕ
longest_chart = chart_length most_nodes

-- Rules 1.4 and 9.6: the passes that are enough for so many nodes, blocks and ways.
abbrev pub passes_for : ℕ → ℕ → ℕ → ℕ
passes_for nodes blocks ways = nodes * (1 + 2 * blocks * ways) + 1

-- Rules 1.4 and 9.6: those that are enough for every chart.
abbrev pub all_passes : ℕ
all_passes = passes_for most_nodes most_blocks most_ways

-- Rule 1.2: the most that S may be.
abbrev pub most_set_bits : ℕ
most_set_bits = 8

-- Rule 3.1: the block of an address.
unfoldable pub block_of : Geometry → ℕ → ℕ
block_of geometry address = address / 2 ^ geometry.line

-- Rule 3.2: the set of a block.
unfoldable pub set_of : Geometry → ℕ → ℕ
set_of geometry block = block % 2 ^ geometry.sets

abbrev pub between : ℕ → ℕ → ℕ → Bool
between least most n = leb least n && leb n most

-- Rules 1.2 and 11.3: whether L, S and A are allowed.
unfoldable pub shape_allowed : Geometry → Bool
shape_allowed geometry = between 2 8 geometry.line && (between 0 most_set_bits geometry.sets && between 1 most_ways geometry.ways)
