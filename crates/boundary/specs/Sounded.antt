-- Soundings of what callers in other languages are told: each answer's numbers in their order; a header whose numbers are all different, so that
-- no two can change places; lists with and without room for them, where one place fewer than an answer has is too few, and just as many are
-- enough; and what is left of all that is lent, whatever it held. Nothing here is a rule of the tool: it is what rules 11.18, 11.24, 12.8, 12.9,
-- 17.6 and 18.10 come to.
use Rattle.std.specs.Prelude.{ℕ, ◌+◌, ◌≤◌, ◌<◌, true, false, ◌≡◌, List, [], ◌∷◌, length, Float, Err, Ok, Some, None}
use Rattle.lists.specs.Lists.{list_of, written}
use Rattle.chart.specs.declared.headers.Start.{Start}
use Rattle.chart.specs.declared.headers.Start.TheVariants.{Unknown, Empty}
use Rattle.chart.specs.declared.headers.Header.{Header}
use Rattle.refusals.specs.declared.Refusal.{Refusal}
use Rattle.chart.specs.declared.records.RecordFields.{RecordFields}
use Rattle.chart.specs.Header.{header_numbers, start_code}
use Rattle.chart.specs.Reading.{ReadSaid, outlined}
use Rattle.analysis.specs.Analysis.{Buffers, AnalysedSaid}
use Rattle.checker.specs.Checker.{CheckedSaid}
use Rattle.totals.specs.Totals.{TotalsSaid}
use Rattle.fields.specs.Fields.{NodeSaid, BlocksSaid, field_numbers}
use Rattle.writer.specs.Taken.{heading_of}
use Rattle.writer.specs.Writer.{WroteSaid}
use Rattle.clock.specs.declared.ClockSheet.{ClockSheet}
use Rattle.clock.specs.declared.Deadline.TheVariants.{None as NoLimit, Latest, Window}
use Rattle.clock.specs.Clock.{zero_time, impossible}
use Rattle.deadline.specs.Deadline.{JudgedSaid, judged_with}
use Rattle.facts.specs.declared.Side.TheVariants.{High, Low}
use Rattle.certificate.specs.Bound.{BoundSaid}
use Rattle.boundary.specs.Certifying.{side_given, denominator_given, bound_numbers, bound_short}
use Rattle.boundary.specs.Timed.{sheet_given, deadline_given, judged_numbers, figures_told, judged_short}
use Rattle.boundary.specs.Told.{returned, left, told, read_numbers, analysed_numbers, checked_numbers, totals_numbers, wrote_numbers, node_numbers, blocks_numbers, heading_given, header_told, fields_told, read_short, analysed_short, checked_short, totals_short, wrote_short, blocks_short, node_short}

-- Lines of 2^5 bytes, 2^3 sets, 2 ways, nine nodes, entry 7.
abbrev pub sample : Start → Header
sample start = record { geometry = record { line = 5; sets = 3; ways = 2 }; start = start; nodes = 9; entry = 7 }

-- So many places that hold 9, 10, 11 and so on.
abbrev pub places : ℕ → List ℕ
places count = list_of count (λ k. 9 + k)

-- Rules 12.9, 17.6 and 18.10, answer by answer.
pub record ToldSounded : Type 0 where
  pub empty_told : header_numbers (sample Empty) ≡ 5 ∷ 3 ∷ 2 ∷ 1 ∷ 9 ∷ 7 ∷ []
  pub unknown_told : header_numbers (sample Unknown) ≡ 5 ∷ 3 ∷ 2 ∷ 0 ∷ 9 ∷ 7 ∷ []
  -- a header goes over the start of its list, which keeps its tail; after a refusal the list stays as it is
  pub header-told : header_told (outlined (sample Empty) 3) (places 8) ≡ 5 ∷ 3 ∷ 2 ∷ 1 ∷ 9 ∷ 7 ∷ 15 ∷ 16 ∷ []
  pub header_whole_told : (header : Header) (blocks : ℕ) (lent : List ℕ) → header_told (outlined header blocks) lent ≡ written (header_numbers header) lent
  pub no_header_told : (refusal : Refusal) (lent : List ℕ) → header_told (Err refusal) lent ≡ lent
  pub read_told : (said : ReadSaid) → read_numbers said ≡ said.number ∷ said.place ∷ said.blocks ∷ []
  pub analysed_told : (said : AnalysedSaid) → analysed_numbers said ≡ said.number ∷ said.place ∷ said.passes ∷ said.blocks ∷ []
  pub checked_told : (said : CheckedSaid) → checked_numbers said ≡ said.number ∷ said.place ∷ said.yes ∷ []
  pub totals_told : (said : TotalsSaid) → totals_numbers said ≡ said.number ∷ said.place ∷ said.low ∷ said.high ∷ []
  pub wrote_told : (said : WroteSaid) → wrote_numbers said ≡ said.number ∷ said.place ∷ said.length ∷ []
  pub node_told : (said : NodeSaid) → node_numbers said ≡ said.number ∷ said.place ∷ said.there ∷ []
  pub blocks_told : (said : BlocksSaid) → blocks_numbers said ≡ said.number ∷ said.place ∷ said.blocks ∷ []
  -- the writer's six numbers are those of a header that is told, in its order
  pub heading-given : (header : Header)
      → heading_given header.geometry.line header.geometry.sets header.geometry.ways (start_code header.start) header.nodes header.entry ≡ heading_of header
  pub heading_whole : (line sets ways start nodes entry : ℕ)
      → heading_given line sets ways start nodes entry ≡ record { line = line; sets = sets; ways = ways; start = start; nodes = nodes; entry = entry }
  -- a node's six fields go over the start of their list, and where there is no node or no chart the list stays as it is
  pub fields_whole : (fields : RecordFields) → field_numbers fields ≡ fields.kind ∷ fields.address ∷ fields.size ∷ fields.outs ∷ fields.first ∷ fields.second ∷ []
  pub fields_told_whole : fields_told (Ok (Some (record { kind = 1; address = 2; outs = 4; first = 5; second = 6; size = 3 }))) (places 8) ≡ 1 ∷ 2 ∷ 3 ∷ 4 ∷ 5 ∷ 6 ∷ 15 ∷ 16 ∷ []
  pub node_fields_told : (fields : RecordFields) (lent : List ℕ) → fields_told (Ok (Some fields)) lent ≡ written (field_numbers fields) lent
  pub no_node_told : (lent : List ℕ) → fields_told (Ok None) lent ≡ lent
  pub no_fields_told : (refusal : Refusal) (lent : List ℕ) → fields_told (Err refusal) lent ≡ lent
  -- a sheet's two numbers, and a deadline by its kind: what a kind has not is not looked at, and another kind is refused whatever the sheet
  pub sheet-given : (period overhead : Float) → sheet_given period overhead ≡ record { period = period; overhead = overhead }
  pub none_given : (earliest latest : Float) → deadline_given 0 earliest latest ≡ NoLimit
  pub latest_given : (earliest latest : Float) → deadline_given 1 earliest latest ≡ Latest latest
  pub window_given : (earliest latest : Float) → deadline_given 2 earliest latest ≡ Window earliest latest
  pub other_given : (kind : ℕ) (earliest latest : Float) (sheet : ClockSheet) → 2 < kind → impossible sheet (deadline_given kind earliest latest) ≡ true
  pub judged_told : (said : JudgedSaid) → judged_numbers said ≡ said.number ∷ said.place ∷ said.met ∷ []
  -- the two figures go over the start of their list, the low one first, and are 0 after a refusal
  pub met_figures_told : (low high : Float) (lent : List Float) → figures_told (judged_with true low high) lent ≡ written (low ∷ high ∷ []) lent
  pub not_met_figures_told : (low high : Float) (lent : List Float) → figures_told (judged_with false low high) lent ≡ written (low ∷ high ∷ []) lent
  pub no_figures_told : (refusal : Refusal) (lent : List Float) → figures_told (Err refusal) lent ≡ written (zero_time ∷ zero_time ∷ []) lent
  -- a side by its number, and the denominator; beside a number of no side the denominator is 0, which is out of its range
  pub high_given : side_given 0 ≡ High
  pub low_given : side_given 1 ≡ Low
  pub denominator-given : (denominator : ℕ) → (denominator_given 0 denominator ≡ denominator) × (denominator_given 1 denominator ≡ denominator)
  pub no_side_given : (side denominator : ℕ) → 1 < side → denominator_given side denominator ≡ 0
  pub bound_told : (said : BoundSaid) → bound_numbers said ≡ said.number ∷ said.place ∷ said.bound ∷ []
  -- a function's lists are too short for its answer exactly where one of them has fewer places than it needs
  pub read_room : (header answer : List ℕ) → 6 ≤ length header → 3 ≤ length answer → read_short header answer ≡ false
  pub header_short : (header answer : List ℕ) → length header < 6 → read_short header answer ≡ true
  pub short_read : (header answer : List ℕ) → length answer < 3 → read_short header answer ≡ true
  pub analysed_room : (answer : List ℕ) → 4 ≤ length answer → analysed_short answer ≡ false
  pub analysed-short : (answer : List ℕ) → length answer < 4 → analysed_short answer ≡ true
  pub checked_room : (answer : List ℕ) → 3 ≤ length answer → checked_short answer ≡ false
  pub checked-short : (answer : List ℕ) → length answer < 3 → checked_short answer ≡ true
  pub totals_room : (answer : List ℕ) → 4 ≤ length answer → totals_short answer ≡ false
  pub totals-short : (answer : List ℕ) → length answer < 4 → totals_short answer ≡ true
  pub wrote_room : (answer : List ℕ) → 3 ≤ length answer → wrote_short answer ≡ false
  pub wrote-short : (answer : List ℕ) → length answer < 3 → wrote_short answer ≡ true
  pub blocks_room : (answer : List ℕ) → 3 ≤ length answer → blocks_short answer ≡ false
  pub blocks-short : (answer : List ℕ) → length answer < 3 → blocks_short answer ≡ true
  pub node_room : (fields answer : List ℕ) → 6 ≤ length fields → 3 ≤ length answer → node_short fields answer ≡ false
  pub fields_short : (fields answer : List ℕ) → length fields < 6 → node_short fields answer ≡ true
  pub node-short : (fields answer : List ℕ) → length answer < 3 → node_short fields answer ≡ true
  pub judged_room : (figures : List Float) (answer : List ℕ) → 2 ≤ length figures → 3 ≤ length answer → judged_short figures answer ≡ false
  pub figures_short : (figures : List Float) (answer : List ℕ) → length figures < 2 → judged_short figures answer ≡ true
  pub judged-short : (figures : List Float) (answer : List ℕ) → length answer < 3 → judged_short figures answer ≡ true
  pub bound_room : (answer : List ℕ) → 3 ≤ length answer → bound_short answer ≡ false
  pub bound-short : (answer : List ℕ) → length answer < 3 → bound_short answer ≡ true
  -- without room 11 is returned, whatever the answer would be, and all is left as it was; with room the answer's number, a list keeps its tail, and
  -- what else is lent is left as the work leaves it
  pub short_returns : (number : ℕ) → returned true number ≡ 11
  pub short_leaves : (numbers lent : List ℕ) → told true numbers lent ≡ lent
  pub room_returns : (number : ℕ) → returned false number ≡ number
  pub room_tells : (numbers lent : List ℕ) → told false numbers lent ≡ written numbers lent
  pub figures_left : (before after : List Float) → (left true before after ≡ before) × (left false before after ≡ after)
  pub lists_left : (before after : List ℕ) → (left true before after ≡ before) × (left false before after ≡ after)
  pub buffers_left : (before after : Buffers) → (left true before after ≡ before) × (left false before after ≡ after)
