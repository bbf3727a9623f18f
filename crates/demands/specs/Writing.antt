-- Of demand 1: when the writer, reading one node and listing the blocks refuse, and what they leave. Rules 11.0, 11.8, 11.11 and 15.1 to 15.6.
use Rattle.std.specs.Prelude.{ℕ, ◌+◌, ◌*◌, ◌^◌, ◌≤◌, ◌<◌, List, [], ◌∷◌, ◌⊎◌, ◌≡◌, length, get_or, Err, None, Ok, Some}
use Rattle.lists.specs.Lists.{written}
use Rattle.refusals.specs.declared.Refusal.{Refusal}
use Rattle.refusals.specs.declared.Refusal.TheVariants.{CacheShape, StartCode, NodeCount, EntryNode, ShortBuffer}
use Rattle.refusals.specs.Refusals.{number_of, place_of}
use Rattle.chart.specs.declared.headers.HeaderFields.{HeaderFields}
use Rattle.chart.specs.declared.records.RecordFields.{RecordFields}
use Rattle.chart.specs.Geometry.{most_nodes}
use Rattle.chart.specs.Layout.{record_widths}
use Rattle.chart.specs.Chart.{Chart, accepted, refused, read_chart, block_count}
use Rattle.chart.specs.Bytes.{AreBytes, record_bytes}
use Rattle.chart.specs.Refusing.{RecordKeeps, Rows}
use Rattle.fields.specs.Fields.{node_read, read_node_says, blocks_read, read_blocks_say}
use Rattle.writer.specs.declared.heading.Heading.{Heading}
use Rattle.writer.specs.Packing.{Fit, record_values}
use Rattle.writer.specs.Given.{NodeLists}
use Rattle.writer.specs.Writer.{write_cases, stored, wrote, write_says}
use Rattle.demands.specs.Ordered.{numbers_of}

-- Rule 15.3: the header's fields, and those of node n's record, from what is given. Like `ListsLong` below, this stands here a second time on
-- purpose: if it changed in the writer, definition and code alike, the two would differ.
abbrev pub HeaderIs : Heading → HeaderFields
HeaderIs heading =
    record {
      edition = 1;
      line = heading.line;
      sets = heading.sets;
      ways = heading.ways;
      start = heading.start;
      first_spare = 0;
      nodes = heading.nodes;
      entry = heading.entry;
      second_spare = 0;
    }

abbrev pub RecordIs : NodeLists → ℕ → RecordFields
RecordIs lists n =
    record {
      kind = get_or lists.kinds n 0;
      address = get_or lists.addresses n 0;
      outs = get_or lists.outs n 0;
      first = get_or lists.firsts n 0;
      second = get_or lists.seconds n 0;
      size = get_or lists.sizes n 0;
    }

-- Rule 15.4: each list has N numbers.
abbrev pub ListsLong : ℕ → NodeLists → Type 0
ListsLong nodes lists =
    (length lists.kinds ≡ nodes)
    × ((length lists.addresses ≡ nodes)
    × ((length lists.sizes ≡ nodes)
    × ((length lists.outs ≡ nodes)
    × ((length lists.firsts ≡ nodes)
    × (length lists.seconds ≡ nodes)))))

-- Rules 11.1 to 11.11 of what is given to the writer: those of a record and of the header are the reader's. The lists stand for the length, and the
-- buffer is the writer's. There are no bytes to be too few.
abbrev pub GivenApplies : Heading → NodeLists → List ℕ → Refusal → Type 0
GivenApplies heading lists lent refusal =
    Rows ⊥ (ListsLong heading.nodes lists) (length lent < 8 + 8 * heading.nodes) (HeaderIs heading) (RecordIs lists) refusal

-- Rule 11.0: none of a smaller number does.
abbrev pub NoneBeforeGiven : Heading → NodeLists → List ℕ → Refusal → Type 0
NoneBeforeGiven heading lists lent refusal = (other : Refusal) → number_of other < number_of refusal → GivenApplies heading lists lent other → ⊥

-- Rules 15.4 to 15.6, of anything that is given.
pub record WriterRefusals (heading : Heading) (lists : NodeLists) (lent : List ℕ) : Type 0 where
  pub order : numbers_of (write_cases heading lists lent) ≡ 2 ∷ 3 ∷ 4 ∷ 5 ∷ 6 ∷ 7 ∷ 8 ∷ 9 ∷ 10 ∷ 11 ∷ []
  -- a refusal is given exactly if its rule applies and none of a smaller number does, and the buffer is then as it was
  pub given : (refusal : Refusal)
      → GivenApplies heading lists lent refusal
      → NoneBeforeGiven heading lists lent refusal
      → wrote heading lists lent ≡ record { answer = Err refusal; chart = lent }
  pub only : (refusal : Refusal)
      → (wrote heading lists lent).answer ≡ Err refusal
      → GivenApplies heading lists lent refusal × NoneBeforeGiven heading lists lent refusal
  pub unchanged : (refusal : Refusal) → (wrote heading lists lent).answer ≡ Err refusal → (wrote heading lists lent).chart ≡ lent
  -- and else the chart is written
  pub writes : ((refusal : Refusal) → GivenApplies heading lists lent refusal → ⊥) → wrote heading lists lent ≡ stored heading lists lent
  pub only_writes : (count : ℕ)
      → (wrote heading lists lent).answer ≡ Ok count
      → (count ≡ 8 + 8 * heading.nodes) × ((refusal : Refusal) → GivenApplies heading lists lent refusal → ⊥)
  -- in numbers: 1, 2 and 7 are never given, and none above 11
  pub numbers : ((write_says heading lists lent).number ≤ 11)
      × (((write_says heading lists lent).number ≡ 1 → ⊥) × (((write_says heading lists lent).number ≡ 2 → ⊥) × ((write_says heading lists lent).number ≡ 7 → ⊥)))
  pub refusal_says : (refusal : Refusal)
      → (wrote heading lists lent).answer ≡ Err refusal
      → write_says heading lists lent ≡ record { number = number_of refusal; place = place_of refusal; length = 0 }
  pub length_says : (count : ℕ)
      → (wrote heading lists lent).answer ≡ Ok count
      → write_says heading lists lent ≡ record { number = 0; place = 0; length = count }
  -- the buffer neither grows nor shrinks, and keeps its tail
  pub same_length : length (wrote heading lists lent).chart ≡ length lent
  pub tail_kept : (count k : ℕ) → (wrote heading lists lent).answer ≡ Ok count → count ≤ k → get_or (wrote heading lists lent).chart k 0 ≡ get_or lent k 0
  -- a number that is too wide for its field breaks the rule of that field: an entry or an arrow is then above every N that is allowed, and a
  -- record with such a number breaks a rule of 11.9
  pub wide_shape : (2 ^ 4 ≤ heading.line) ⊎ ((2 ^ 4 ≤ heading.sets) ⊎ (2 ^ 4 ≤ heading.ways)) → GivenApplies heading lists lent CacheShape
  pub wide_start : 2 ^ 2 ≤ heading.start → GivenApplies heading lists lent StartCode
  pub wide_nodes : 2 ^ 12 ≤ heading.nodes → GivenApplies heading lists lent NodeCount
  pub wide_entry : heading.nodes ≤ most_nodes → 2 ^ 12 ≤ heading.entry → GivenApplies heading lists lent EntryNode
  pub wide_record : (n : ℕ)
      → heading.nodes ≤ most_nodes
      → (Fit record_widths (record_values (RecordIs lists n)) → ⊥)
      → RecordKeeps heading.nodes (RecordIs lists n)
      → ⊥

-- Rules 15.1 and 15.2, of any bytes.
pub record FieldsRefusals : Type 0 where
  -- refusals 1 to 10 are the reader's
  pub to_node : (bytes : List ℕ) (refusal : Refusal) (n : ℕ) → read_chart bytes ≡ refused refusal → node_read bytes n ≡ Err refusal
  pub to_blocks : (bytes : List ℕ) (refusal : Refusal) (lent : List ℕ)
      → read_chart bytes ≡ refused refusal
      → blocks_read bytes lent ≡ record { answer = Err refusal; blocks = lent }
  -- of an accepted chart each node's fields are told, as its bytes say them, and of no other
  pub there : (bytes : List ℕ) (chart : Chart) (n : ℕ)
      → AreBytes bytes
      → read_chart bytes ≡ accepted chart
      → n < chart.header.nodes
      → node_read bytes n ≡ Ok (Some (record_bytes bytes n))
  pub not_there : (bytes : List ℕ) (chart : Chart) (n : ℕ)
      → read_chart bytes ≡ accepted chart
      → chart.header.nodes ≤ n
      → node_read bytes n ≡ Ok None
  -- and the blocks are listed where there is room for them
  pub listed_blocks : (bytes : List ℕ) (chart : Chart) (lent : List ℕ)
      → read_chart bytes ≡ accepted chart
      → block_count chart ≤ length lent
      → blocks_read bytes lent ≡ record { answer = Ok (block_count chart); blocks = written chart.blocks lent }
  pub short_blocks : (bytes : List ℕ) (chart : Chart) (lent : List ℕ)
      → read_chart bytes ≡ accepted chart
      → length lent < block_count chart
      → blocks_read bytes lent ≡ record { answer = Err ShortBuffer; blocks = lent }
  -- the list neither grows nor shrinks, and keeps its tail
  pub same_length : (bytes lent : List ℕ) → length (blocks_read bytes lent).blocks ≡ length lent
  pub tail_kept : (bytes : List ℕ) (lent : List ℕ) (count k : ℕ)
      → (blocks_read bytes lent).answer ≡ Ok count
      → count ≤ k
      → get_or (blocks_read bytes lent).blocks k 0 ≡ get_or lent k 0
  -- in numbers: which there are, and what each answer says
  pub node-numbers : (bytes : List ℕ) (n : ℕ) → (read_node_says bytes n).number ≤ 10
  pub node_refusal : (bytes : List ℕ) (n : ℕ) (refusal : Refusal)
      → node_read bytes n ≡ Err refusal
      → read_node_says bytes n ≡ record { number = number_of refusal; place = place_of refusal; there = 0; fields = [] }
  pub node-says : (bytes : List ℕ) (n : ℕ) (f : RecordFields)
      → node_read bytes n ≡ Ok (Some f)
      → read_node_says bytes n ≡ record { number = 0; place = 0; there = 1; fields = f.kind ∷ f.address ∷ f.size ∷ f.outs ∷ f.first ∷ f.second ∷ [] }
  pub no_node_says : (bytes : List ℕ) (n : ℕ) → node_read bytes n ≡ Ok None → read_node_says bytes n ≡ record { number = 0; place = 0; there = 0; fields = [] }
  pub blocks-numbers : (bytes lent : List ℕ) → (read_blocks_say bytes lent).number ≤ 11
  pub blocks_refusal : (bytes lent : List ℕ) (refusal : Refusal)
      → (blocks_read bytes lent).answer ≡ Err refusal
      → read_blocks_say bytes lent ≡ record { number = number_of refusal; place = place_of refusal; blocks = 0 }
  pub blocks-say : (bytes lent : List ℕ) (count : ℕ)
      → (blocks_read bytes lent).answer ≡ Ok count
      → read_blocks_say bytes lent ≡ record { number = 0; place = 0; blocks = count }
