-- Soundings of reading one node and of the list of blocks: a chart of two nodes in which no two fields of both nodes are alike, numbers below and
-- from N on, a chart that is refused, and buffers with too little room, just enough and more. Nothing here is a rule of the tool: these are
-- examples of rules 15.1 and 15.2, and `FieldsSounded` holds the definitions to them.
use Rattle.std.specs.Prelude.{ℕ, List, [], ◌∷◌, ◌++◌, ◌≡◌, replicate, set, Result}
use Rattle.lists.specs.Slices.{MutSlice}
use Rattle.lists.specs.Soundings.{Sounding, ◌reads◌, Hold}
use Rattle.fields.specs.Fields.{read_node_says, blocks_read, read_blocks_say, exit_blocks}
use Rattle.refusals.specs.declared.Refusal.{Refusal}

-- Lines of 16 bytes, two nodes. Node 0 writes four bytes from 0x2E on, and leads to 1; node 1 reads 0x1E, and leads to 1 and to 0.
abbrev pub two_nodes : List ℕ
two_nodes =
    0x01 ∷ 0x40 ∷ 0x24 ∷ 0x00 ∷ 0x00 ∷ 0x20 ∷ 0x00 ∷ 0x00
    ∷ 0x80 ∷ 0x00 ∷ 0x00 ∷ 0x0B ∷ 0x90 ∷ 0x01 ∷ 0x00 ∷ 0x02
    ∷ 0x40 ∷ 0x00 ∷ 0x00 ∷ 0x07 ∷ 0xA0 ∷ 0x01 ∷ 0x00 ∷ 0x00
    ∷ []

-- The same, and the second record is of a kind that there is not.
abbrev pub bad_node : List ℕ
bad_node = set two_nodes 16 0xC0

-- Number, place, whether there is such a node, and its fields.
abbrev pub node_out : List ℕ → ℕ → List ℕ
node_out bytes n =
    (read_node_says bytes n).number
    ∷ (read_node_says bytes n).place
    ∷ (read_node_says bytes n).there
    ∷ (read_node_says bytes n).fields

abbrev pub nodes_read : List Sounding
nodes_read =
    -- kind, address, size code, number of arrows, first and second
    (node_out two_nodes 0 reads (0 ∷ 0 ∷ 1 ∷ 2 ∷ 0x2E ∷ 2 ∷ 1 ∷ 1 ∷ 0 ∷ []))
    ∷ (node_out two_nodes 1 reads (0 ∷ 0 ∷ 1 ∷ 1 ∷ 0x1E ∷ 0 ∷ 2 ∷ 1 ∷ 0 ∷ []))
    -- there is no node 2
    ∷ (node_out two_nodes 2 reads (0 ∷ 0 ∷ 0 ∷ []))
    -- node 0 is as it was, and the chart is refused; and so is one with a byte more
    ∷ (node_out bad_node 0 reads (9 ∷ 1 ∷ 0 ∷ []))
    ∷ (node_out (two_nodes ++ 0x00 ∷ []) 0 reads (8 ∷ 0 ∷ 0 ∷ []))
    ∷ []

-- Number, place and B, and then the list, of so many sevens before.
abbrev pub blocks_out : List ℕ → ℕ → List ℕ
blocks_out bytes room =
    (read_blocks_say bytes (replicate room 7)).number
    ∷ (read_blocks_say bytes (replicate room 7)).place
    ∷ (read_blocks_say bytes (replicate room 7)).blocks
    ∷ (blocks_read bytes (replicate room 7)).blocks

abbrev pub blocks_listed : List Sounding
blocks_listed =
    -- blocks 2 and 3 of node 0, and 1 of node 1: just enough room, more, and too little
    (blocks_out two_nodes 3 reads (0 ∷ 0 ∷ 3 ∷ 1 ∷ 2 ∷ 3 ∷ []))
    ∷ (blocks_out two_nodes 5 reads (0 ∷ 0 ∷ 3 ∷ 1 ∷ 2 ∷ 3 ∷ 7 ∷ 7 ∷ []))
    ∷ (blocks_out two_nodes 2 reads (11 ∷ 0 ∷ 0 ∷ 7 ∷ 7 ∷ []))
    -- a refused chart, with room and without
    ∷ (blocks_out bad_node 3 reads (9 ∷ 1 ∷ 0 ∷ 7 ∷ 7 ∷ 7 ∷ []))
    ∷ (blocks_out bad_node 0 reads (9 ∷ 1 ∷ 0 ∷ []))
    ∷ []

pub record FieldsSounded : Type 0 where
  -- what is left is the list at exit, whatever is answered
  pub blocks_left : (blocks : MutSlice) (answer : Result ℕ Refusal) → exit_blocks blocks answer ≡ record { answer = answer; blocks = blocks.exit.now }
  pub nodes-read : Hold nodes_read
  pub blocks-listed : Hold blocks_listed
