-- What the reader answers for any bytes, and the same in numbers. Rules 12.1 and 12.8.
-- A choice: number and place are 0 where nothing is refused, and the answer in numbers leaves the blocks themselves out.
use Rattle.std.specs.Prelude.{List, [], ℕ, length, replicate, Result, Ok, Err}
use Rattle.lists.specs.Lists.{padded}
use Rattle.refusals.specs.declared.Refusal.{Refusal}
use Rattle.chart.specs.declared.headers.Header.{Header}
use Rattle.chart.specs.declared.readings.Outline.{Outline}
use Rattle.chart.specs.declared.readings.Reading.{Reading}
use Rattle.chart.specs.Geometry.{most_blocks}
use Rattle.refusals.specs.Refusals.{number_of, place_of}
use Rattle.chart.specs.Header.{header_numbers}
use Rattle.chart.specs.Chart.{Read, accepted, refused, read_chart}

-- A chart's header and how many blocks it has, as the reader answers them.
abbrev pub outlined : Header → ℕ → Result Outline Refusal
outlined header blocks = Ok (record { header = header; blocks = blocks })

-- Rule 12.1: what is answered with a chart, and what with a refusal.
unfoldable pub reading_of : Read → Reading
reading_of (accepted chart) =
    record {
      verdict = outlined chart.header (length chart.blocks);
      blocks = padded most_blocks chart.blocks;
    }
reading_of (refused refusal) = record { verdict = Err refusal; blocks = replicate most_blocks 0 }

-- The answer in numbers: number and place, both 0 for no refusal, then B and the header's.
pub record ReadSaid : Type 0 where
  pub number : ℕ
  pub place : ℕ
  pub blocks : ℕ
  pub header : List ℕ

-- Rule 12.8: a refusal says its number and place, B is 0, and there is no header.
abbrev pub verdict_says : Result Outline Refusal → ReadSaid
verdict_says (Ok outline) =
    record { number = 0; place = 0; blocks = outline.blocks; header = header_numbers outline.header }
verdict_says (Err refusal) =
    record { number = number_of refusal; place = place_of refusal; blocks = 0; header = [] }

-- Rule 12.1: what the reader answers.
abbrev pub reading : List ℕ → Reading
reading bytes = reading_of (read_chart bytes)

-- What the reader says of any bytes, in numbers.
abbrev pub read_says : List ℕ → ReadSaid
read_says bytes = verdict_says (reading bytes).verdict
