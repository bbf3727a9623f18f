-- What a caller in another language is told: numbers at the start of a lent list. Rules 12.8 and 12.9, and rule 11.11 of the lists for the
-- answer, which goes before all other refusals; and rule 15.3, of the writer's six numbers. The checker's yes is told and not returned, and the
-- reader's blocks are not told: listing them is a function of its own. include/veilbuzz.h names the places in C.
use Rattle.std.specs.Prelude.{ℕ, Bool, cond, ◌||◌, List, [], ◌∷◌, length, ltb, replicate, Err, None, Ok, Option, Result, Some}
use Rattle.lists.specs.Lists.{written}
use Rattle.refusals.specs.declared.Refusal.{Refusal}
use Rattle.refusals.specs.declared.Refusal.TheVariants.{ShortBuffer}
use Rattle.refusals.specs.Refusals.{number_of, place_of}
use Rattle.chart.specs.Header.{header_numbers}
use Rattle.chart.specs.Reading.{ReadSaid}
use Rattle.analysis.specs.Analysis.{AnalysedSaid}
use Rattle.checker.specs.Checker.{CheckedSaid}
use Rattle.totals.specs.Totals.{TotalsSaid}
use Rattle.fields.specs.Fields.{NodeSaid, BlocksSaid, field_numbers}
use Rattle.writer.specs.declared.heading.Heading.{Heading}
use Rattle.writer.specs.Writer.{WroteSaid}
use Rattle.chart.specs.declared.records.RecordFields.{RecordFields}
use Rattle.chart.specs.declared.readings.Outline.{Outline}

-- Rules 11.11 and 12.9: a lent list has fewer places than there are numbers to tell in it.
abbrev pub short : {X : Type 0} → List X → ℕ → Bool
short lent places = ltb (length lent) places

-- Rule 12.9: what is returned, 11 or the number of the answer.
abbrev pub returned : Bool → ℕ → ℕ
returned short number = cond short (number_of ShortBuffer) number

-- Rule 12.9: what is left of something lent, what it held before or what the work makes of it.
abbrev pub left : {X : Type 0} → Bool → X → X → X
left short before after = cond short before after

-- Rule 12.9: what is left of a list that numbers are told in.
abbrev pub told : Bool → List ℕ → List ℕ → List ℕ
told short numbers lent = left short lent (written numbers lent)

-- Rules 12.8 and 12.9: a refusal's numbers, where an answer has so many.
abbrev pub refused_numbers : ℕ → Refusal → List ℕ
refused_numbers places refusal = written (number_of refusal ∷ place_of refusal ∷ []) (replicate places 0)

-- Rule 12.9: the reader's answer, number and place before B.
abbrev pub read_numbers : ReadSaid → List ℕ
read_numbers said = said.number ∷ said.place ∷ said.blocks ∷ []

-- Rule 12.9: the analysis's, with pass count and B.
abbrev pub analysed_numbers : AnalysedSaid → List ℕ
analysed_numbers said = said.number ∷ said.place ∷ said.passes ∷ said.blocks ∷ []

-- Rule 12.9: the checker's, with yes or no.
abbrev pub checked_numbers : CheckedSaid → List ℕ
checked_numbers said = said.number ∷ said.place ∷ said.yes ∷ []

-- Rule 12.9: the totals', the low one first.
abbrev pub totals_numbers : TotalsSaid → List ℕ
totals_numbers said = said.number ∷ said.place ∷ said.low ∷ said.high ∷ []

-- Rule 12.9: the writer's, with how many bytes were written; that for a node, with 1 if there is one; and that for the blocks, with B.
abbrev pub wrote_numbers : WroteSaid → List ℕ
wrote_numbers said = said.number ∷ said.place ∷ said.length ∷ []

abbrev pub node_numbers : NodeSaid → List ℕ
node_numbers said = said.number ∷ said.place ∷ said.there ∷ []

abbrev pub blocks_numbers : BlocksSaid → List ℕ
blocks_numbers said = said.number ∷ said.place ∷ said.blocks ∷ []

-- Rule 15.3: the writer's six numbers, in the order of a header that is told.
abbrev pub heading_given : ℕ → ℕ → ℕ → ℕ → ℕ → ℕ → Heading
heading_given line sets ways start nodes entry =
    record {
      line = line;
      sets = sets;
      ways = ways;
      start = start;
      nodes = nodes;
      entry = entry;
    }

-- Rule 12.9: a lent list with the fields of a node that there is told in it, or as it was.
abbrev pub fields_told : Result (Option RecordFields) Refusal → List ℕ → List ℕ
fields_told (Ok (Some fields)) lent = written (field_numbers fields) lent
fields_told (Ok None) lent = lent
fields_told (Err refusal) lent = lent

-- Rule 12.9: a lent list with an accepted chart's header told in it, or as it was.
abbrev pub header_told : Result Outline Refusal → List ℕ → List ℕ
header_told (Ok outline) lent = written (header_numbers outline.header) lent
header_told (Err refusal) lent = lent

-- Rule 12.9: whether a function's lists are too short for its answer. The reader has two, one for the header and one for the rest.
abbrev pub read_short : List ℕ → List ℕ → Bool
read_short header answer = short header 6 || short answer 3

abbrev pub analysed_short : List ℕ → Bool
analysed_short answer = short answer 4

abbrev pub checked_short : List ℕ → Bool
checked_short answer = short answer 3

abbrev pub totals_short : List ℕ → Bool
totals_short answer = short answer 4

abbrev pub wrote_short : List ℕ → Bool
wrote_short answer = short answer 3

abbrev pub blocks_short : List ℕ → Bool
blocks_short answer = short answer 3

-- The same of a node's fields and the answer for it.
abbrev pub node_short : List ℕ → List ℕ → Bool
node_short fields answer = short fields 6 || short answer 3
