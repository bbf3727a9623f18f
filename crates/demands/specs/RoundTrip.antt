-- What was written reads back, and what was read is written again, as theorems of the definitions that the functions promise. Rules 1.1 to 1.3,
-- 2.1 to 2.4, 2.9 to 2.12, 3.4, 11.0 and 15.1 to 15.6. `round_trip` in proofs/RoundTrip.antt proves it.
use Rattle.std.specs.Prelude.{ℕ, ◌+◌, ◌*◌, ◌^◌, ◌≤◌, ◌<◌, List, [], ◌∷◌, ◌⊎◌, ◌≡◌, length, take, Err, Ok, Some}
use Rattle.lists.specs.Lists.{written}
use Rattle.refusals.specs.declared.Refusal.{Refusal}
use Rattle.refusals.specs.declared.Refusal.TheVariants.{ShortBuffer}
use Rattle.chart.specs.declared.headers.Header.{Header}
use Rattle.chart.specs.Layout.{header_widths, record_widths}
use Rattle.chart.specs.Header.{header_of, header_numbers}
use Rattle.chart.specs.Chart.{Chart, accepted, refused, chart_of, read_chart, block_count}
use Rattle.chart.specs.Bytes.{AreBytes, header_bytes, record_bytes}
use Rattle.fields.specs.Fields.{node_read, blocks_read}
use Rattle.writer.specs.declared.heading.Heading.{Heading}
use Rattle.writer.specs.Packing.{Fit, header_values, record_values, chart_bytes}
use Rattle.writer.specs.Given.{NodeLists, header_given, listed}
use Rattle.writer.specs.Taken.{heading_of, lists_of}
use Rattle.writer.specs.Writer.{wrote}
use Rattle.demands.specs.Writing.{HeaderIs, RecordIs, ListsLong}

-- The chart of what is given.
abbrev pub chart_given : Heading → NodeLists → Chart
chart_given heading lists = chart_of (listed lists) (header_of (header_given heading))

-- No value is too wide for its field.
pub record AllFit (heading : Heading) (lists : NodeLists) (count : ℕ) : Type 0 where
  pub header : Fit header_widths (header_values (HeaderIs heading))
  pub records : (n : ℕ) → n < count → Fit record_widths (record_values (RecordIs lists n))

-- These bytes read back as what was given: byte by byte, by the reader, node by node, and the blocks.
pub record ReadsBack (heading : Heading) (lists : NodeLists) (bytes : List ℕ) : Type 0 where
  pub are_bytes : AreBytes bytes
  pub header_said : header_bytes bytes ≡ HeaderIs heading
  pub records_said : (n : ℕ) → n < heading.nodes → record_bytes bytes n ≡ RecordIs lists n
  pub read : read_chart bytes ≡ accepted (chart_given heading lists)
  pub header : header_numbers (chart_given heading lists).header
      ≡ heading.line ∷ heading.sets ∷ heading.ways ∷ heading.start ∷ heading.nodes ∷ heading.entry ∷ []
  pub nodes : (n : ℕ) → n < heading.nodes → node_read bytes n ≡ Ok (Some (RecordIs lists n))
  pub blocks : (lent : List ℕ)
      → block_count (chart_given heading lists) ≤ length lent
      → blocks_read bytes lent
      ≡ record { answer = Ok (block_count (chart_given heading lists)); blocks = written (chart_given heading lists).blocks lent }

-- These bytes say what was given: its header, and as many records.
pub record Makes (heading : Heading) (lists : NodeLists) (count : ℕ) (bytes : List ℕ) : Type 0 where
  pub are_bytes : AreBytes bytes
  pub long : length bytes ≡ 8 + 8 * count
  pub header_said : header_bytes bytes ≡ HeaderIs heading
  pub records_said : (n : ℕ) → n < count → record_bytes bytes n ≡ RecordIs lists n

pub record RoundTrip : Type 0 where
  -- what it writes reads back to the same fields: header, every node, blocks
  pub reads_back : (heading : Heading) (lists : NodeLists) (lent : List ℕ) (count : ℕ)
      → (wrote heading lists lent).answer ≡ Ok count
      → ReadsBack heading lists (take count (wrote heading lists lent).chart)
  -- nothing that is written was cut
  pub written_fits : (heading : Heading) (lists : NodeLists) (lent : List ℕ) (count : ℕ)
      → (wrote heading lists lent).answer ≡ Ok count
      → AllFit heading lists heading.nodes
  -- an accepted chart, read and written again, gives the same bytes; its fields are those that are read node by node, and its heading is the header
  -- that the reader tells
  pub writes_again : (bytes : List ℕ) (chart : Chart) (lent : List ℕ)
      → AreBytes bytes
      → read_chart bytes ≡ accepted chart
      → length bytes ≤ length lent
      → wrote (heading_of chart.header) (lists_of chart) lent ≡ record { answer = Ok (length bytes); chart = written bytes lent }
  pub nodes_again : (bytes : List ℕ) (chart : Chart) (n : ℕ)
      → read_chart bytes ≡ accepted chart
      → n < chart.header.nodes
      → node_read bytes n ≡ Ok (Some (RecordIs (lists_of chart) n))
  pub header_again : (header : Header)
      → header_numbers header
      ≡ (heading_of header).line ∷ (heading_of header).sets ∷ (heading_of header).ways ∷ (heading_of header).start ∷ (heading_of header).nodes ∷ (heading_of header).entry ∷ []
  -- values fit where each is below two to the power of its width
  pub fits_none : Fit [] []
  pub fits_more : (width value : ℕ) (widths values : List ℕ) → value < 2 ^ width → Fit widths values → Fit (width ∷ widths) (value ∷ values)
  -- what fits, in lists of one length, makes bytes that say it, whether or not it keeps the rules
  pub makes : (heading : Heading) (lists : NodeLists) (count : ℕ)
      → ListsLong count lists
      → AllFit heading lists count
      → Makes heading lists count (chart_bytes (header_given heading) (listed lists) count)
  -- and there, whether that length is N or not, the writer refuses exactly where the reader refuses these bytes, and with the same number and
  -- place; but for a buffer that is too short. Of lists of several lengths no bytes are made: rule 15.4 has them (`WriterRefusals`)
  pub refuses_alike : (heading : Heading) (lists : NodeLists) (lent : List ℕ) (count : ℕ) (refusal : Refusal)
      → ListsLong count lists
      → AllFit heading lists count
      → read_chart (chart_bytes (header_given heading) (listed lists) count) ≡ refused refusal
      → wrote heading lists lent ≡ record { answer = Err refusal; chart = lent }
  pub refused_alike : (heading : Heading) (lists : NodeLists) (lent : List ℕ) (count : ℕ) (refusal : Refusal)
      → ListsLong count lists
      → AllFit heading lists count
      → (wrote heading lists lent).answer ≡ Err refusal
      → (refusal ≡ ShortBuffer) ⊎ (read_chart (chart_bytes (header_given heading) (listed lists) count) ≡ refused refusal)
  pub accepts_alike : (heading : Heading) (lists : NodeLists) (lent : List ℕ) (count : ℕ) (chart : Chart)
      → ListsLong count lists
      → AllFit heading lists count
      → read_chart (chart_bytes (header_given heading) (listed lists) count) ≡ accepted chart
      → 8 + 8 * count ≤ length lent
      → wrote heading lists lent
      ≡ record {
        answer = Ok (8 + 8 * count);
        chart = written (chart_bytes (header_given heading) (listed lists) count) lent;
      }
  -- no two charts have the same bytes: what is given, and written, to the same bytes is the same
  pub no_two_charts : (one other : Heading) (ones others : NodeLists) (lent spare : List ℕ) (count same : ℕ)
      → (wrote one ones lent).answer ≡ Ok count
      → (wrote other others spare).answer ≡ Ok same
      → take count (wrote one ones lent).chart ≡ take same (wrote other others spare).chart
      → (one ≡ other) × (ones ≡ others)
  -- and no two byte strings the same chart: those that are read as one header and the same nodes are the same
  pub no_two_strings : (one other : List ℕ) (chart same : Chart)
      → AreBytes one
      → AreBytes other
      → read_chart one ≡ accepted chart
      → read_chart other ≡ accepted same
      → chart.header ≡ same.header
      → ((n : ℕ) → n < chart.header.nodes → chart.node n ≡ same.node n)
      → one ≡ other
