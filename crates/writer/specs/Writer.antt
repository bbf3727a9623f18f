-- What the writer answers and what it leaves in the lent buffer, for any numbers, any lists and any buffer. Rules 11.2 to 11.11, 12.8 and
-- 15.4 to 15.6.
-- A choice: number and place are 0 where nothing is refused.
use Rattle.std.specs.Prelude.{ℕ, List, [], ◌∷◌, ◌++◌, length, ltb, Err, Ok, Result}
use Rattle.lists.specs.Choice.{Case, ◌⇒◌, first_case}
use Rattle.lists.specs.Lists.{written}
use Rattle.refusals.specs.declared.Refusal.{Refusal}
use Rattle.refusals.specs.declared.Refusal.TheVariants.{ShortBuffer}
use Rattle.refusals.specs.Refusals.{number_of, place_of}
use Rattle.chart.specs.Layout.{chart_length}
use Rattle.chart.specs.Chart.{field_cases}
use Rattle.writer.specs.declared.heading.Heading.{Heading}
use Rattle.writer.specs.Packing.{chart_bytes}
use Rattle.writer.specs.Given.{NodeLists, header_given, listed, all_long}

-- The answer, and the buffer at exit.
pub record WriteLeft : Type 0 where
  pub answer : Result ℕ Refusal
  pub chart : List ℕ

-- Rule 11.11, of the buffer for so many nodes.
abbrev pub room_cases : ℕ → List ℕ → List (Case Refusal)
room_cases nodes lent = (ltb (length lent) (chart_length nodes) ⇒ ShortBuffer) ∷ []

-- Rule 15.4: the reader's rules 11.2 to 11.10 of what is given, in their order, and 11.11 after them. Of edition and spare bits, which are not
-- given, 11.2 and 11.7 never apply.
abbrev pub write_cases : Heading → NodeLists → List ℕ → List (Case Refusal)
write_cases heading lists lent =
    field_cases (header_given heading) (all_long heading.nodes lists) (listed lists) ++ room_cases heading.nodes lent

-- Rule 15.5: the bytes of what is given, over the start of the buffer, and how many they are.
abbrev pub stored : Heading → NodeLists → List ℕ → WriteLeft
stored heading lists lent =
    record {
      answer = Ok (chart_length heading.nodes);
      chart = written (chart_bytes (header_given heading) (listed lists) heading.nodes) lent;
    }

-- Rule 15.6: after a refusal the buffer is as it was.
abbrev pub refuse_writing : List ℕ → Refusal → WriteLeft
refuse_writing lent refusal = record { answer = Err refusal; chart = lent }

-- Rules 15.4 to 15.6: the first refusal that applies, or the chart.
unfoldable pub wrote : Heading → NodeLists → List ℕ → WriteLeft
wrote heading lists lent = first_case (refuse_writing lent) (write_cases heading lists lent) (stored heading lists lent)

-- The answer in numbers: number and place, both 0 for no refusal, then how many bytes were written.
pub record WroteSaid : Type 0 where
  pub number : ℕ
  pub place : ℕ
  pub length : ℕ

-- Rules 12.8 and 15.6: a refusal says its number and place, and nothing was written.
abbrev pub wrote_says : Result ℕ Refusal → WroteSaid
wrote_says (Ok count) = record { number = 0; place = 0; length = count }
wrote_says (Err refusal) = record { number = number_of refusal; place = place_of refusal; length = 0 }

abbrev pub write_says : Heading → NodeLists → List ℕ → WroteSaid
write_says heading lists lent = wrote_says (wrote heading lists lent).answer
