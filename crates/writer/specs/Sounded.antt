-- Soundings of the writer: the loop of docs/RULES.md made from its fields; a header and a record in which no two fields can change places unseen;
-- what is refused where one number of the loop is another, too wide or not; lists and buffers of other lengths; and which refusal goes before
-- which. Nothing here is a rule of the tool: these are examples of rules 1.1, 11.0 and 15.3 to 15.6, and `WriterSounded` holds the definitions to
-- them.
use Rattle.std.specs.Prelude.{ℕ, ◌*◌, ◌^◌, List, [], ◌∷◌, ◌++◌, ◌≡◌, replicate, take, Result}
use Rattle.lists.specs.Slices.{Slice, MutSlice}
use Rattle.lists.specs.Lists.{list_of}
use Rattle.lists.specs.Soundings.{Sounding, ◌reads◌, Hold}
use Rattle.writer.specs.declared.heading.Heading.{Heading}
use Rattle.writer.specs.Packing.{chart_bytes}
use Rattle.writer.specs.Given.{NodeLists, header_given, listed}
use Rattle.writer.specs.Writer.{wrote, write_says}
use Rattle.writer.specs.Contract.{six_lists, entry_lists, exit_writing}
use Rattle.refusals.specs.declared.Refusal.{Refusal}

-- ---- the loop

-- Lines of 16 bytes, one set of two ways, empty, three nodes, entry 0.
abbrev pub loop_heading : Heading
loop_heading = record { line = 4; sets = 0; ways = 2; start = 1; nodes = 3; entry = 0 }

-- A step to node 1; a read of 0 that leads to 1 and 2; a read of 0.
abbrev pub loop_lists : NodeLists
loop_lists =
    record {
      kinds = 0 ∷ 1 ∷ 1 ∷ [];
      addresses = 0 ∷ 0 ∷ 0 ∷ [];
      sizes = 0 ∷ 0 ∷ 0 ∷ [];
      outs = 1 ∷ 2 ∷ 0 ∷ [];
      firsts = 1 ∷ 1 ∷ 0 ∷ [];
      seconds = 0 ∷ 2 ∷ 0 ∷ [];
    }

abbrev pub loop_bytes : List ℕ
loop_bytes =
    0x01 ∷ 0x40 ∷ 0x24 ∷ 0x00 ∷ 0x00 ∷ 0x30 ∷ 0x00 ∷ 0x00
    ∷ 0x00 ∷ 0x00 ∷ 0x00 ∷ 0x00 ∷ 0x10 ∷ 0x01 ∷ 0x00 ∷ 0x00
    ∷ 0x40 ∷ 0x00 ∷ 0x00 ∷ 0x00 ∷ 0x20 ∷ 0x01 ∷ 0x00 ∷ 0x20
    ∷ 0x40 ∷ 0x00 ∷ 0x00 ∷ 0x00 ∷ 0x00 ∷ 0x00 ∷ 0x00 ∷ 0x00
    ∷ []

-- Number, place and length for a heading, lists and a buffer of so many sevens, and then the buffer.
abbrev pub write_out : Heading → NodeLists → ℕ → List ℕ
write_out heading lists room =
    (write_says heading lists (replicate room 7)).number
    ∷ (write_says heading lists (replicate room 7)).place
    ∷ (write_says heading lists (replicate room 7)).length
    ∷ (wrote heading lists (replicate room 7)).chart

abbrev pub loop_written : List Sounding
loop_written =
    -- just enough room, and two bytes more, which stay
    (write_out loop_heading loop_lists 32 reads (0 ∷ 0 ∷ 32 ∷ loop_bytes))
    ∷ (write_out loop_heading loop_lists 34 reads (0 ∷ 0 ∷ 32 ∷ loop_bytes ++ 7 ∷ 7 ∷ []))
    -- one byte too few, and none
    ∷ (write_out loop_heading loop_lists 31 reads (11 ∷ 0 ∷ 0 ∷ replicate 31 7))
    ∷ (write_out loop_heading loop_lists 0 reads (11 ∷ 0 ∷ 0 ∷ []))
    ∷ []

-- ---- where each field goes

-- L 5, S 3, A 6, start code 2, which there is not, N 255, entry 0x123; a record of kind 3, which there is not, of two bytes from 0xDEADBEEF
-- on, with two arrows, to 0x123 and to 0x456.
abbrev pub apart_heading : Heading
apart_heading = record { line = 5; sets = 3; ways = 6; start = 2; nodes = 255; entry = 0x123 }

abbrev pub apart_lists : NodeLists
apart_lists =
    record {
      kinds = 3 ∷ [];
      addresses = 0xDEADBEEF ∷ [];
      sizes = 1 ∷ [];
      outs = 2 ∷ [];
      firsts = 0x123 ∷ [];
      seconds = 0x456 ∷ [];
    }

abbrev pub fields_packed : List Sounding
fields_packed =
    (chart_bytes (header_given apart_heading) (listed apart_lists) 1 reads
    (0x01 ∷ 0x53 ∷ 0x68 ∷ 0x00 ∷ 0x0F ∷ 0xF1 ∷ 0x23 ∷ 0x00 ∷ 0xF7 ∷ 0xAB ∷ 0x6F ∷ 0xBB ∷ 0xE1 ∷ 0x23 ∷ 0x45 ∷ 0x61 ∷ []))
    ∷ []

-- ---- one number of the loop is another

-- Number and place, with room enough.
abbrev pub refused_out : Heading → NodeLists → List ℕ
refused_out heading lists = take 2 (write_out heading lists 32)

abbrev pub line_of : ℕ → List ℕ
line_of line = refused_out (record { line = line; sets = 0; ways = 2; start = 1; nodes = 3; entry = 0 }) loop_lists

abbrev pub sets_of : ℕ → List ℕ
sets_of sets = refused_out (record { line = 4; sets = sets; ways = 2; start = 1; nodes = 3; entry = 0 }) loop_lists

abbrev pub ways_of : ℕ → List ℕ
ways_of ways = refused_out (record { line = 4; sets = 0; ways = ways; start = 1; nodes = 3; entry = 0 }) loop_lists

abbrev pub start_of : ℕ → List ℕ
start_of start = refused_out (record { line = 4; sets = 0; ways = 2; start = start; nodes = 3; entry = 0 }) loop_lists

abbrev pub nodes_of : ℕ → List ℕ
nodes_of nodes = refused_out (record { line = 4; sets = 0; ways = 2; start = 1; nodes = nodes; entry = 0 }) loop_lists

abbrev pub entry_of : ℕ → List ℕ
entry_of entry = refused_out (record { line = 4; sets = 0; ways = 2; start = 1; nodes = 3; entry = entry }) loop_lists

abbrev pub headings_refused : List Sounding
headings_refused =
    -- the least and the most that are allowed, what is beyond, and what a field of four bits would cut to an allowed one
    (line_of 1 reads (3 ∷ 0 ∷ [])) ∷ (line_of 2 reads (0 ∷ 0 ∷ [])) ∷ (line_of 8 reads (0 ∷ 0 ∷ [])) ∷ (line_of 9 reads (3 ∷ 0 ∷ [])) ∷ (line_of 20 reads (3 ∷ 0 ∷ []))
    ∷ (sets_of 8 reads (0 ∷ 0 ∷ [])) ∷ (sets_of 9 reads (3 ∷ 0 ∷ [])) ∷ (sets_of 16 reads (3 ∷ 0 ∷ []))
    ∷ (ways_of 0 reads (3 ∷ 0 ∷ [])) ∷ (ways_of 8 reads (0 ∷ 0 ∷ [])) ∷ (ways_of 9 reads (3 ∷ 0 ∷ [])) ∷ (ways_of 18 reads (3 ∷ 0 ∷ []))
    ∷ (start_of 0 reads (0 ∷ 0 ∷ [])) ∷ (start_of 2 reads (4 ∷ 0 ∷ [])) ∷ (start_of 4 reads (4 ∷ 0 ∷ []))
    ∷ (nodes_of 0 reads (5 ∷ 0 ∷ [])) ∷ (nodes_of 1025 reads (5 ∷ 0 ∷ [])) ∷ (nodes_of 4099 reads (5 ∷ 0 ∷ [])) ∷ (nodes_of 5000 reads (5 ∷ 0 ∷ []))
    ∷ (nodes_of 2 reads (8 ∷ 0 ∷ [])) ∷ (nodes_of 4 reads (8 ∷ 0 ∷ []))
    ∷ (entry_of 2 reads (0 ∷ 0 ∷ [])) ∷ (entry_of 3 reads (6 ∷ 0 ∷ [])) ∷ (entry_of 4096 reads (6 ∷ 0 ∷ []))
    ∷ []

-- The loop with other lists of one field.
abbrev pub kinds_of : List ℕ → List ℕ
kinds_of kinds =
    refused_out loop_heading
    (six_lists kinds loop_lists.addresses loop_lists.sizes loop_lists.outs loop_lists.firsts loop_lists.seconds)

abbrev pub addresses_of : List ℕ → List ℕ
addresses_of addresses =
    refused_out loop_heading
    (six_lists loop_lists.kinds addresses loop_lists.sizes loop_lists.outs loop_lists.firsts loop_lists.seconds)

abbrev pub sizes_of : List ℕ → List ℕ
sizes_of sizes =
    refused_out loop_heading
    (six_lists loop_lists.kinds loop_lists.addresses sizes loop_lists.outs loop_lists.firsts loop_lists.seconds)

abbrev pub outs_of : List ℕ → List ℕ
outs_of outs =
    refused_out loop_heading
    (six_lists loop_lists.kinds loop_lists.addresses loop_lists.sizes outs loop_lists.firsts loop_lists.seconds)

abbrev pub firsts_of : List ℕ → List ℕ
firsts_of firsts =
    refused_out loop_heading
    (six_lists loop_lists.kinds loop_lists.addresses loop_lists.sizes loop_lists.outs firsts loop_lists.seconds)

abbrev pub seconds_of : List ℕ → List ℕ
seconds_of seconds =
    refused_out loop_heading
    (six_lists loop_lists.kinds loop_lists.addresses loop_lists.sizes loop_lists.outs loop_lists.firsts seconds)

abbrev pub nodes_refused : List Sounding
nodes_refused =
    -- too wide by a bit: cut, each would be what the loop has
    (kinds_of (0 ∷ 1 ∷ 5 ∷ []) reads (9 ∷ 2 ∷ []))
    ∷ (addresses_of (0 ∷ 0 ∷ 2 ^ 32 ∷ []) reads (9 ∷ 2 ∷ []))
    ∷ (addresses_of (2 ^ 32 ∷ 0 ∷ 2 ^ 32 ∷ []) reads (9 ∷ 0 ∷ []))
    ∷ (sizes_of (0 ∷ 16 ∷ 0 ∷ []) reads (9 ∷ 1 ∷ []))
    ∷ (outs_of (5 ∷ 2 ∷ 0 ∷ []) reads (9 ∷ 0 ∷ []))
    ∷ (firsts_of (4097 ∷ 1 ∷ 0 ∷ []) reads (9 ∷ 0 ∷ []))
    ∷ (seconds_of (0 ∷ 4098 ∷ 0 ∷ []) reads (9 ∷ 1 ∷ []))
    -- the last address, and two bytes from there on
    ∷ (addresses_of (0 ∷ 0 ∷ 0xFFFFFFFF ∷ []) reads (0 ∷ 0 ∷ []))
    ∷ (sizes_of (0 ∷ 2 ∷ 2 ∷ []) reads (0 ∷ 0 ∷ []))
    -- a kind that there is not, a bare step with an address or a size, three arrows, one to N, an unused one that is not 0, twins, a size that
    -- there is not
    ∷ (kinds_of (0 ∷ 3 ∷ 1 ∷ []) reads (9 ∷ 1 ∷ []))
    ∷ (kinds_of (0 ∷ 2 ∷ 1 ∷ []) reads (0 ∷ 0 ∷ []))
    ∷ (addresses_of (1 ∷ 0 ∷ 0 ∷ []) reads (9 ∷ 0 ∷ []))
    ∷ (sizes_of (1 ∷ 0 ∷ 0 ∷ []) reads (9 ∷ 0 ∷ []))
    ∷ (outs_of (1 ∷ 3 ∷ 0 ∷ []) reads (9 ∷ 1 ∷ []))
    ∷ (firsts_of (3 ∷ 1 ∷ 0 ∷ []) reads (9 ∷ 0 ∷ []))
    ∷ (firsts_of (1 ∷ 1 ∷ 1 ∷ []) reads (9 ∷ 2 ∷ []))
    ∷ (seconds_of (0 ∷ 1 ∷ 0 ∷ []) reads (9 ∷ 1 ∷ []))
    ∷ (sizes_of (0 ∷ 3 ∷ 0 ∷ []) reads (9 ∷ 1 ∷ []))
    -- five kinds
    ∷ (kinds_of (0 ∷ 1 ∷ 1 ∷ 0 ∷ 0 ∷ []) reads (8 ∷ 0 ∷ []))
    -- each list alone with one number fewer, and one more
    ∷ (kinds_of (0 ∷ 1 ∷ []) reads (8 ∷ 0 ∷ [])) ∷ (kinds_of (0 ∷ 1 ∷ 1 ∷ 0 ∷ []) reads (8 ∷ 0 ∷ []))
    ∷ (addresses_of (0 ∷ 0 ∷ []) reads (8 ∷ 0 ∷ [])) ∷ (addresses_of (0 ∷ 0 ∷ 0 ∷ 0 ∷ []) reads (8 ∷ 0 ∷ []))
    ∷ (sizes_of (0 ∷ 0 ∷ []) reads (8 ∷ 0 ∷ [])) ∷ (sizes_of (0 ∷ 0 ∷ 0 ∷ 0 ∷ []) reads (8 ∷ 0 ∷ []))
    ∷ (outs_of (1 ∷ 2 ∷ []) reads (8 ∷ 0 ∷ [])) ∷ (outs_of (1 ∷ 2 ∷ 0 ∷ 0 ∷ []) reads (8 ∷ 0 ∷ []))
    ∷ (firsts_of (1 ∷ 1 ∷ []) reads (8 ∷ 0 ∷ [])) ∷ (firsts_of (1 ∷ 1 ∷ 0 ∷ 0 ∷ []) reads (8 ∷ 0 ∷ []))
    ∷ (seconds_of (0 ∷ 2 ∷ []) reads (8 ∷ 0 ∷ [])) ∷ (seconds_of (0 ∷ 2 ∷ 0 ∷ 0 ∷ []) reads (8 ∷ 0 ∷ []))
    ∷ []

-- ---- which goes before which

-- No room, a size code of node 2 that there is not, these kinds and this start code.
abbrev pub wrong_from : ℕ → List ℕ → List ℕ
wrong_from start kinds =
    take 2
    (write_out (record { line = 4; sets = 0; ways = 2; start = start; nodes = 3; entry = 0 })
    (six_lists kinds loop_lists.addresses (0 ∷ 0 ∷ 9 ∷ []) loop_lists.outs loop_lists.firsts loop_lists.seconds) 0)

abbrev pub ordered : List Sounding
ordered =
    (wrong_from 1 (0 ∷ 1 ∷ 1 ∷ []) reads (9 ∷ 2 ∷ []))
    ∷ (wrong_from 1 (0 ∷ 1 ∷ []) reads (8 ∷ 0 ∷ []))
    ∷ (wrong_from 7 (0 ∷ 1 ∷ []) reads (4 ∷ 0 ∷ []))
    ∷ (refused_out (record { line = 0; sets = 0; ways = 2; start = 7; nodes = 0; entry = 9 }) loop_lists reads (3 ∷ 0 ∷ []))
    ∷ (refused_out (record { line = 4; sets = 0; ways = 2; start = 7; nodes = 0; entry = 9 }) loop_lists reads (4 ∷ 0 ∷ []))
    ∷ (refused_out (record { line = 4; sets = 0; ways = 2; start = 0; nodes = 0; entry = 9 }) loop_lists reads (5 ∷ 0 ∷ []))
    ∷ (refused_out (record { line = 4; sets = 0; ways = 2; start = 0; nodes = 4; entry = 9 }) loop_lists reads (6 ∷ 0 ∷ []))
    ∷ []

-- ---- the 65th block

-- So many nodes that read a block each, in lines of 4 bytes.
abbrev pub crowd_out : ℕ → List ℕ
crowd_out nodes =
    take 2
    (write_out (record { line = 2; sets = 0; ways = 2; start = 0; nodes = nodes; entry = 0 })
    (record {
      kinds = replicate nodes 1;
      addresses = list_of nodes (λ n. 4 * n);
      sizes = replicate nodes 0;
      outs = replicate nodes 0;
      firsts = replicate nodes 0;
      seconds = replicate nodes 0;
    })
    0)

abbrev pub crowds : List Sounding
crowds = (crowd_out 64 reads (11 ∷ 0 ∷ [])) ∷ (crowd_out 65 reads (10 ∷ 64 ∷ [])) ∷ []

pub record WriterSounded : Type 0 where
  -- what is left is the buffer at exit, whatever is answered
  pub chart_left : (chart : MutSlice) (answer : Result ℕ Refusal) → exit_writing chart answer ≡ record { answer = answer; chart = chart.exit.now }
  -- each list that is lent is the one that its name says
  pub lists_lent : (kinds addresses sizes outs firsts seconds : Slice)
      → entry_lists kinds addresses sizes outs firsts seconds
      ≡ record {
        kinds = kinds.entry.now;
        addresses = addresses.entry.now;
        sizes = sizes.entry.now;
        outs = outs.entry.now;
        firsts = firsts.entry.now;
        seconds = seconds.entry.now;
      }
  pub loop-written : Hold loop_written
  pub fields-packed : Hold fields_packed
  pub headings-refused : Hold headings_refused
  pub nodes-refused : Hold nodes_refused
  pub ordered_hold : Hold ordered
  pub crowds_hold : Hold crowds
