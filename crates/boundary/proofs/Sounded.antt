-- Callers in other languages are told what the soundings want, by computing. Each has its name, so that one that fails is named.
use Rattle.std.specs.Prelude.{Err, None, Ok, Some}
use Prim.Native.Nat.{ℕ, ◌≤◌, ◌<◌}
use mathlib.Core.Bool.{true, false, ◌||◌}
use mathlib.Core.Path.{◌≡◌, refl}
use mathlib.Core.List.{List, [], ◌∷◌}
use native.Mathlib.Omega.{arith}
use borrow.Author.Tests.{lt-ltb, lt-leb, le-ltb, ne_eqb}
use lib.Ieee.{Float, lt, eq}
use lib.ListN.{length}
use Rattle.lists.specs.Lists.{written}
use Rattle.lists.proofs.Choice.{or-always, false-or, true-or}
use Rattle.chart.specs.declared.headers.Start.TheVariants.{Unknown, Empty}
use Rattle.chart.specs.declared.headers.Header.{Header}
use Rattle.refusals.specs.declared.Refusal.{Refusal}
use Rattle.chart.specs.declared.records.RecordFields.{RecordFields}
use Rattle.chart.specs.Header.{header_numbers, start_code}
use Rattle.chart.specs.Reading.{ReadSaid, outlined}
use Rattle.checker.specs.Checker.{CheckedSaid}
use Rattle.totals.specs.Totals.{TotalsSaid}
use Rattle.fields.specs.Fields.{NodeSaid, BlocksSaid, field_numbers}
use Rattle.writer.specs.Taken.{heading_of}
use Rattle.writer.specs.Writer.{WroteSaid}
use Rattle.clock.specs.declared.ClockSheet.{ClockSheet}
use Rattle.clock.specs.Clock.{zero_time, improper, impossible}
use Rattle.boundary.specs.Timed.{wrong_way_round, deadline_given}
use Rattle.boundary.specs.Told.{short, read_numbers, analysed_numbers, checked_numbers, totals_numbers, wrote_numbers, node_numbers, blocks_numbers, heading_given, header_told, fields_told}
use Rattle.analysis.specs.Analysis.{AnalysedSaid}
use Rattle.boundary.specs.Sounded.{sample, places, ToldSounded}

empty_told : header_numbers (sample Empty) ≡ 5 ∷ 3 ∷ 2 ∷ 1 ∷ 9 ∷ 7 ∷ []
empty_told = refl

unknown_told : header_numbers (sample Unknown) ≡ 5 ∷ 3 ∷ 2 ∷ 0 ∷ 9 ∷ 7 ∷ []
unknown_told = refl

header-told : header_told (outlined (sample Empty) 3) (places 8) ≡ 5 ∷ 3 ∷ 2 ∷ 1 ∷ 9 ∷ 7 ∷ 15 ∷ 16 ∷ []
header-told = refl

header_whole_told : (header : Header) (blocks : ℕ) (lent : List ℕ) → header_told (outlined header blocks) lent ≡ written (header_numbers header) lent
header_whole_told header blocks lent = refl

no_header_told : (refusal : Refusal) (lent : List ℕ) → header_told (Err refusal) lent ≡ lent
no_header_told refusal lent = refl

read_told : (said : ReadSaid) → read_numbers said ≡ said.number ∷ said.place ∷ said.blocks ∷ []
read_told said = refl

analysed_told : (said : AnalysedSaid) → analysed_numbers said ≡ said.number ∷ said.place ∷ said.passes ∷ said.blocks ∷ []
analysed_told said = refl

checked_told : (said : CheckedSaid) → checked_numbers said ≡ said.number ∷ said.place ∷ said.yes ∷ []
checked_told said = refl

totals_told : (said : TotalsSaid) → totals_numbers said ≡ said.number ∷ said.place ∷ said.low ∷ said.high ∷ []
totals_told said = refl

wrote_told : (said : WroteSaid) → wrote_numbers said ≡ said.number ∷ said.place ∷ said.length ∷ []
wrote_told said = refl

node_told : (said : NodeSaid) → node_numbers said ≡ said.number ∷ said.place ∷ said.there ∷ []
node_told said = refl

blocks_told : (said : BlocksSaid) → blocks_numbers said ≡ said.number ∷ said.place ∷ said.blocks ∷ []
blocks_told said = refl

heading-given : (header : Header)
    → heading_given header.geometry.line header.geometry.sets header.geometry.ways (start_code header.start) header.nodes header.entry ≡ heading_of header
heading-given header = refl

heading_whole : (line sets ways start nodes entry : ℕ)
    → heading_given line sets ways start nodes entry ≡ record { line = line; sets = sets; ways = ways; start = start; nodes = nodes; entry = entry }
heading_whole line sets ways start nodes entry = refl

fields_whole : (fields : RecordFields) → field_numbers fields ≡ fields.kind ∷ fields.address ∷ fields.size ∷ fields.outs ∷ fields.first ∷ fields.second ∷ []
fields_whole fields = refl

fields_told_whole : fields_told (Ok (Some (record { kind = 1; address = 2; outs = 4; first = 5; second = 6; size = 3 }))) (places 8) ≡ 1 ∷ 2 ∷ 3 ∷ 4 ∷ 5 ∷ 6 ∷ 15 ∷ 16 ∷ []
fields_told_whole = refl

node_fields_told : (fields : RecordFields) (lent : List ℕ) → fields_told (Ok (Some fields)) lent ≡ written (field_numbers fields) lent
node_fields_told fields lent = refl

no_node_told : (lent : List ℕ) → fields_told (Ok None) lent ≡ lent
no_node_told lent = refl

no_fields_told : (refusal : Refusal) (lent : List ℕ) → fields_told (Err refusal) lent ≡ lent
no_fields_told refusal lent = refl

-- A kind above 2 is none of the three, and the window from 1 to 0 that it gives is refused.
refused-whatever : (sheet : ClockSheet) → impossible sheet wrong_way_round ≡ true
unfolding lt improper
refused-whatever sheet = or-always (eq sheet.period zero_time || improper sheet.period || improper sheet.overhead)

other_given : (kind : ℕ) (earliest latest : Float) (sheet : ClockSheet) → 2 < kind → impossible sheet (deadline_given kind earliest latest) ≡ true
other_given kind earliest latest sheet h =
    rw (ne_eqb kind 0 (omega arith), ne_eqb kind 1 (omega arith), ne_eqb kind 2 (omega arith)) (refused-whatever sheet)

-- A list with just as many places or more is not short, and one with fewer is.
room : {X : Type 0} (list : List X) (places : ℕ) → places ≤ length list → short list places ≡ false
room list places h = le-ltb (length list) places h

no_room : {X : Type 0} (list : List X) (places : ℕ) → length list < places → short list places ≡ true
no_room list places h = lt-ltb (length list) places h

-- The same of two lists, the second of three places.
module _ {X : Type 0} (places : ℕ) (one : List X) (other : List ℕ) where
  both-room : places ≤ length one → 3 ≤ length other → (short one places || short other 3) ≡ false
  both-room h k = false-or (short one places) (short other 3) (room one places h) (room other 3 k)

  first_short : length one < places → (short one places || short other 3) ≡ true
  first_short h = rw (no_room one places h)

  second_short : length other < 3 → (short one places || short other 3) ≡ true
  second_short h = true-or (short one places) (short other 3) (λ _. no_room other 3 h)

pub told-sounded : ToldSounded
told-sounded =
    record {
      empty_told = empty_told;
      unknown_told = unknown_told;
      header-told = header-told;
      header_whole_told = header_whole_told;
      no_header_told = no_header_told;
      read_told = read_told;
      analysed_told = analysed_told;
      checked_told = checked_told;
      totals_told = totals_told;
      wrote_told = wrote_told;
      node_told = node_told;
      blocks_told = blocks_told;
      heading-given = heading-given;
      heading_whole = heading_whole;
      fields_whole = fields_whole;
      fields_told_whole = fields_told_whole;
      node_fields_told = node_fields_told;
      no_node_told = no_node_told;
      no_fields_told = no_fields_told;
      sheet-given = λ period overhead. refl;
      none_given = λ earliest latest. refl;
      latest_given = λ earliest latest. refl;
      window_given = λ earliest latest. refl;
      other_given = other_given;
      judged_told = λ said. refl;
      met_figures_told = λ low high lent. refl;
      not_met_figures_told = λ low high lent. refl;
      no_figures_told = λ refusal lent. refl;
      high_given = refl;
      low_given = refl;
      denominator-given = λ denominator. (refl, refl);
      no_side_given = λ side denominator h. rw (lt-leb side 1 h);
      bound_told = λ said. refl;
      read_room = λ one other. both-room 6 one other;
      header_short = λ one other. first_short 6 one other;
      short_read = λ one other. second_short 6 one other;
      analysed_room = λ answer h. room answer 4 h;
      analysed-short = λ answer h. no_room answer 4 h;
      checked_room = λ answer h. room answer 3 h;
      checked-short = λ answer h. no_room answer 3 h;
      totals_room = λ answer h. room answer 4 h;
      totals-short = λ answer h. no_room answer 4 h;
      wrote_room = λ answer h. room answer 3 h;
      wrote-short = λ answer h. no_room answer 3 h;
      blocks_room = λ answer h. room answer 3 h;
      blocks-short = λ answer h. no_room answer 3 h;
      node_room = λ one other. both-room 6 one other;
      fields_short = λ one other. first_short 6 one other;
      node-short = λ one other. second_short 6 one other;
      judged_room = λ figures answer. both-room 2 figures answer;
      figures_short = λ figures answer. first_short 2 figures answer;
      judged-short = λ figures answer. second_short 2 figures answer;
      bound_room = λ answer h. room answer 3 h;
      bound-short = λ answer h. no_room answer 3 h;
      short_returns = λ number. refl;
      short_leaves = λ numbers lent. refl;
      room_returns = λ number. refl;
      room_tells = λ numbers lent. refl;
      figures_left = λ before after. (refl, refl);
      lists_left = λ before after. (refl, refl);
      buffers_left = λ before after. (refl, refl);
    }
