-- Demand 1, as those who ordered the tool put it: "Any bytes and any buffer lengths get an answer or a numbered refusal. What a refusal
-- returns and leaves behind, and when each is given, is written down."
-- The definitions answer for every input whatever; this is what they say of each refusal of the reader, of the header alone, of the analysis, of the
-- checker, of the totals, of a deadline, of a certificate's bound, of the writer, of a node read alone and of the blocks listed: rules 3.4, 11.0 to 11.18,
-- 11.23 to 11.25, 12.1 to 12.3, 12.5 to 12.8, 15.1 to 15.6, 17.5 and 18.9. Proved as `demand1` in proofs/Demand1.antt.
use Rattle.std.specs.Prelude.{ℕ, ◌*◌, ◌≤◌, ◌<◌, ◌≡◌, true, false, List, [], ◌∷◌, ◌⊎◌, length, replicate, get_or, Err, Ok}
use Rattle.lists.specs.Lists.{padded}
use Rattle.lists.specs.Choice.{FirstApplies}
use Rattle.refusals.specs.declared.Refusal.{Refusal}
use Rattle.refusals.specs.declared.Refusal.TheVariants.{ShortBuffer, NotPassing}
use Rattle.chart.specs.Geometry.{most_blocks}
use Rattle.blocks.specs.Exactly.{Exactly}
use Rattle.chart.specs.declared.records.RecordFields.{RecordFields}
use Rattle.chart.specs.Bytes.{AreBytes}
use Rattle.chart.specs.Refusing.{Applies, record_blocks, blocks_before}
use Rattle.chart.specs.Saying.{Says}
use Rattle.chart.specs.Header.{bytes_cases, header_read, read_header_says}
use Rattle.chart.specs.Reading.{reading, read_says, outlined}
use Rattle.chart.specs.Chart.{Chart, accepted, refused, read_chart, chart_cases, block_count}
use Rattle.refusals.specs.Refusals.{number_of, place_of}
use Rattle.flow.specs.Pass.{pass, after_passes}
use Rattle.ages.specs.Charted.{plan_of, ages_flow}
use Rattle.costs.specs.Costs.{Figures, low_total, high_total}
use Rattle.tables.specs.Lent.{Lent, table_of, table_short, SameUsed, TablePasses}
use Rattle.analysis.specs.Analysis.{Buffers, table_in, buffers_short, filled_by_zeros, analysed, analyse_says, settled_after, analysis_refused, unsettled}
use Rattle.checker.specs.Checker.{checked, check_says}
use Rattle.totals.specs.Totals.{total_cases, totals, total_says, totals_between}
use Rattle.writer.specs.declared.heading.Heading.{Heading}
use Rattle.writer.specs.Given.{NodeLists}
use Rattle.demands.specs.Ordered.{numbers_of}
use Rattle.clock.specs.declared.ClockSheet.{ClockSheet}
use Rattle.clock.specs.declared.Deadline.{Deadline}
use Rattle.deadline.specs.Deadline.{judged}
use Rattle.demands.specs.Judging.{JudgedRefusals}
use Rattle.demands.specs.Bounding.{Bounding}
use Rattle.demands.specs.Writing.{WriterRefusals, FieldsRefusals}

-- Rule 11.12: each of so many passes changes something.
abbrev pub AllChange : Chart → ℕ → Type 0
AllChange chart allowance = (k : ℕ) → k < allowance → (pass (ages_flow chart) (after_passes (ages_flow chart) k)).changed ≡ true

-- The five lengths are those of the buffers lent.
pub record SameLengths (lent left : Buffers) : Type 0 where
  pub blocks : length left.blocks ≡ length lent.blocks
  pub must : length left.must ≡ length lent.must
  pub may : length left.may ≡ length lent.may
  pub marks : length left.marks ≡ length lent.marks
  pub classes : length left.classes ≡ length lent.classes

-- Rule 11.0: no refusal of a smaller number applies.
abbrev pub NoneBefore : List ℕ → Refusal → Type 0
NoneBefore bytes refusal = (other : Refusal) → number_of other < number_of refusal → Applies bytes other → ⊥

-- Rules 11.0 to 11.10 and 12.1: when refusals 1 to 10 are given, that reader, analysis, checker and totals all give them and the header alone
-- gives 1 to 8, and what they leave behind. That reading a node and listing the blocks give them too stands in `FieldsRefusals`, that a deadline does in
-- `JudgedRefusals`, and that a certificate's bound does in `Bounding`.
pub record ReadingRefusals : Type 0 where
  pub order : (bytes : List ℕ) → numbers_of (chart_cases bytes) ≡ 1 ∷ 2 ∷ 3 ∷ 4 ∷ 5 ∷ 6 ∷ 7 ∷ 8 ∷ 9 ∷ 10 ∷ []
  pub given : (bytes : List ℕ) (refusal : Refusal) → FirstApplies (chart_cases bytes) refusal → read_chart bytes ≡ refused refusal
  pub only : (bytes : List ℕ) (refusal : Refusal) → read_chart bytes ≡ refused refusal → FirstApplies (chart_cases bytes) refusal
  -- reading the header alone gives 1 to 8, exactly by their rules, as reading the whole does
  pub header_order : (bytes : List ℕ) → numbers_of (bytes_cases bytes) ≡ 1 ∷ 2 ∷ 3 ∷ 4 ∷ 5 ∷ 6 ∷ 7 ∷ 8 ∷ []
  pub header-given : (bytes : List ℕ) (refusal : Refusal) → FirstApplies (bytes_cases bytes) refusal → header_read bytes ≡ Err refusal
  pub header_only : (bytes : List ℕ) (refusal : Refusal) → header_read bytes ≡ Err refusal → FirstApplies (bytes_cases bytes) refusal
  pub from_header : (bytes : List ℕ) (refusal : Refusal) → header_read bytes ≡ Err refusal → read_chart bytes ≡ refused refusal
  pub to_reader : (bytes : List ℕ) (refusal : Refusal) → read_chart bytes ≡ refused refusal → reading bytes ≡ record { verdict = Err refusal; blocks = replicate most_blocks 0 }
  pub to_reader_accepted : (bytes : List ℕ) (chart : Chart)
      → read_chart bytes ≡ accepted chart
      → reading bytes ≡ record { verdict = outlined chart.header (block_count chart); blocks = padded most_blocks chart.blocks }
  pub to_analysis : (bytes : List ℕ) (refusal : Refusal) (allowance : ℕ) (lent : Buffers)
      → read_chart bytes ≡ refused refusal
      → analysed bytes allowance lent ≡ record { answer = analysis_refused refusal; buffers = lent }
  pub to_checker : (bytes : List ℕ) (refusal : Refusal) (table : Lent)
      → read_chart bytes ≡ refused refusal
      → checked bytes table ≡ Err refusal
  pub to_totals : (bytes : List ℕ) (refusal : Refusal) (table : Lent) (figures : Figures)
      → read_chart bytes ≡ refused refusal
      → totals bytes table figures ≡ Err refusal
  -- the same of bytes, rule by rule, as statements: a refusal is given exactly if its rule applies and none of a smaller number does
  pub row_given : (bytes : List ℕ) (refusal : Refusal)
      → AreBytes bytes
      → Applies bytes refusal
      → NoneBefore bytes refusal
      → read_chart bytes ≡ refused refusal
  pub row_only : (bytes : List ℕ) (refusal : Refusal)
      → AreBytes bytes
      → read_chart bytes ≡ refused refusal
      → Applies bytes refusal × NoneBefore bytes refusal
  -- bytes to which no such rule applies, and only those, are a chart: the one that they say, node by node, with exactly the blocks that are touched
  pub none_accepted : (bytes : List ℕ)
      → AreBytes bytes
      → ((refusal : Refusal) → Applies bytes refusal → ⊥)
      → (chart : Chart) × (read_chart bytes ≡ accepted chart)
  pub accepted_none : (bytes : List ℕ) (chart : Chart) (refusal : Refusal) → AreBytes bytes → read_chart bytes ≡ accepted chart → Applies bytes refusal → ⊥
  pub accepted_says : (bytes : List ℕ) (chart : Chart) → AreBytes bytes → read_chart bytes ≡ accepted chart → Says bytes chart
  -- the blocks that rule 11.10 counts are those that the nodes before touch
  pub counted_blocks : (line : ℕ) (records : ℕ → RecordFields) (n : ℕ) → Exactly (λ i. record_blocks line (records i)) n (blocks_before line records n)
  -- rule 3.4: 64 blocks are the most
  pub few_blocks : (bytes : List ℕ) (chart : Chart) → read_chart bytes ≡ accepted chart → block_count chart ≤ most_blocks

-- Rule 11.11 turned round, as a statement: each of the three lists of a table has the places that rule 12.2 uses.
pub record TableRoom (chart : Chart) (table : Lent) : Type 0 where
  pub must : chart.header.nodes * block_count chart ≤ length table.must
  pub may : chart.header.nodes * block_count chart ≤ length table.may
  pub marks : chart.header.nodes ≤ length table.marks

-- Rule 11.11 in the same way, of all five buffers.
pub record HasRoom (chart : Chart) (lent : Buffers) : Type 0 where
  pub blocks : block_count chart ≤ length lent.blocks
  pub table : TableRoom chart (table_in lent)
  pub classes : 2 * chart.header.nodes ≤ length lent.classes

-- Rules 11.11, 11.12 and 12.3, of the analysis of an accepted chart: 11 if a buffer is short, which is where one has no room; else 12 if every pass
-- that is allowed changes something; else it settles.
pub record AnalysisRefusals (bytes : List ℕ) (chart : Chart) (allowance : ℕ) (lent : Buffers) : Type 0 where
  pub not_short : HasRoom chart lent → buffers_short (plan_of chart) lent ≡ false
  pub has_room : buffers_short (plan_of chart) lent ≡ false → HasRoom chart lent
  pub short : buffers_short (plan_of chart) lent ≡ true → analysed bytes allowance lent ≡ record { answer = analysis_refused ShortBuffer; buffers = lent }
  pub unsettled : buffers_short (plan_of chart) lent ≡ false
      → AllChange chart allowance
      → analysed bytes allowance lent ≡ record { answer = unsettled allowance (block_count chart); buffers = filled_by_zeros (plan_of chart) chart.blocks lent }
  pub settled : buffers_short (plan_of chart) lent ≡ false
      → (AllChange chart allowance → ⊥)
      → (passes : ℕ) × ((analysed bytes allowance lent).answer ≡ settled_after passes (block_count chart))

-- Rules 11.11 and 12.5, of the checker of an accepted chart's table: 11 if it is short, which is where it has no room, else yes or no.
pub record CheckerRefusals (bytes : List ℕ) (chart : Chart) (table : Lent) : Type 0 where
  pub not_short : TableRoom chart table → table_short (plan_of chart) table ≡ false
  pub has_room : table_short (plan_of chart) table ≡ false → TableRoom chart table
  pub short : table_short (plan_of chart) table ≡ true → checked bytes table ≡ Err ShortBuffer
  pub answers : table_short (plan_of chart) table ≡ false → (checked bytes table ≡ Ok true) ⊎ (checked bytes table ≡ Ok false)

-- Rules 11.14 and 11.15 do not apply: floors and ceilings are as many as nodes, and a miss is no cheaper than a hit.
pub record FiguresFit (chart : Chart) (figures : Figures) : Type 0 where
  pub floors_long : length figures.floors ≡ chart.header.nodes
  pub ceilings_long : length figures.ceilings ≡ chart.header.nodes
  pub costs : figures.costs.hit ≤ figures.costs.miss

-- What has to hold for sums to be given: rules 11.11 and 11.13 to 11.17 turned round, as statements.
pub record Summable (chart : Chart) (table : Lent) (figures : Figures) : Type 0 where
  pub passing : TablePasses (plan_of chart) table
  pub figures_fit : FiguresFit chart figures
  pub not_crossed : (n : ℕ) → n < chart.header.nodes → get_or figures.floors n 0 ≤ get_or figures.ceilings n 0
  pub none_unmarked : (n : ℕ) → n < chart.header.nodes → get_or table.marks n 0 ≡ 0 → get_or figures.floors n 0 ≡ 0

-- Rule 12.6, of the totals of an accepted chart: exactly the first of 11 and 13 to 17 that applies, else the two sums. 11 and 13 are the
-- checker's refusal and its no.
pub record TotalsRefusals (bytes : List ℕ) (chart : Chart) (table : Lent) (figures : Figures) : Type 0 where
  pub given : (refusal : Refusal) → FirstApplies (total_cases (plan_of chart) table figures) refusal → totals bytes table figures ≡ Err refusal
  pub only : (refusal : Refusal) → totals bytes table figures ≡ Err refusal → FirstApplies (total_cases (plan_of chart) table figures) refusal
  pub order : numbers_of (total_cases (plan_of chart) table figures) ≡ 11 ∷ 13 ∷ 14 ∷ 15 ∷ 16 ∷ 17 ∷ []
  pub sums : Summable chart table figures
      → totals bytes table figures ≡ totals_between (low_total (plan_of chart) (table_of (plan_of chart) table) figures) (high_total (plan_of chart) (table_of (plan_of chart) table) figures)
  pub only_sums : (low high : ℕ) → totals bytes table figures ≡ totals_between low high → Summable chart table figures
  pub short : checked bytes table ≡ Err ShortBuffer → totals bytes table figures ≡ Err ShortBuffer
  pub fails : checked bytes table ≡ Ok false → totals bytes table figures ≡ Err NotPassing

pub record Demand1 : Type 0 where
  pub readings : ReadingRefusals
  pub analysis : (bytes : List ℕ) (chart : Chart) (allowance : ℕ) (lent : Buffers)
      → read_chart bytes ≡ accepted chart
      → AnalysisRefusals bytes chart allowance lent
  pub checker : (bytes : List ℕ) (chart : Chart) (table : Lent) → read_chart bytes ≡ accepted chart → CheckerRefusals bytes chart table
  pub totalling : (bytes : List ℕ) (chart : Chart) (table : Lent) (figures : Figures)
      → read_chart bytes ≡ accepted chart
      → TotalsRefusals bytes chart table figures
  -- rule 17.5
  pub judging : (bytes : List ℕ) (table : Lent) (figures : Figures) (sheet : ClockSheet) (deadline : Deadline) → JudgedRefusals bytes table figures sheet deadline
  -- rules 11.23 to 11.25 and 18.9: of a certificate's bound
  pub bounding : Bounding
  -- rules 15.1 to 15.6
  pub fields : FieldsRefusals
  pub writing : (heading : Heading) (lists : NodeLists) (lent : List ℕ) → WriterRefusals heading lists lent
  -- rules 12.1, 12.3, 12.5 and 12.6: which numbers a function gives, and no others; of deadlines and bounds this stands above
  pub header-numbers : (bytes : List ℕ) → (read_header_says bytes).number ≤ 8
  pub reading_numbers : (bytes : List ℕ) → (read_says bytes).number ≤ 10
  pub analysis_numbers : (bytes : List ℕ) (allowance : ℕ) (lent : Buffers) → (analyse_says bytes allowance lent).number ≤ 12
  pub checker_numbers : (bytes : List ℕ) (table : Lent) → (check_says bytes table).number ≤ 11
  pub totals-numbers : (bytes : List ℕ) (table : Lent) (figures : Figures)
      → ((total_says bytes table figures).number ≤ 17) × ((total_says bytes table figures).number ≡ 12 → ⊥)
  -- rule 12.8: beside number and place there is 0 for what the function would have counted, and no header; refusal 12 comes with the allowance
  -- and B
  pub header_refusal : (bytes : List ℕ) (refusal : Refusal) → header_read bytes ≡ Err refusal → read_header_says bytes ≡ record { number = number_of refusal; place = place_of refusal; header = [] }
  pub reading_refusal : (bytes : List ℕ) (refusal : Refusal)
      → (reading bytes).verdict ≡ Err refusal
      → read_says bytes ≡ record { number = number_of refusal; place = place_of refusal; blocks = 0; header = [] }
  pub analysis_refusal : (bytes : List ℕ) (allowance : ℕ) (lent : Buffers) (refusal : Refusal)
      → (analysed bytes allowance lent).answer ≡ analysis_refused refusal
      → analyse_says bytes allowance lent ≡ record { number = number_of refusal; place = place_of refusal; passes = 0; blocks = 0 }
  -- 12 is never told as another refusal is: it comes with its values
  pub analysis_refused : (bytes : List ℕ) (allowance : ℕ) (lent : Buffers) (refusal : Refusal)
      → (analysed bytes allowance lent).answer ≡ analysis_refused refusal
      → number_of refusal ≤ 11
  pub analysis_unsettled : (bytes : List ℕ) (chart : Chart) (allowance : ℕ) (lent : Buffers)
      → read_chart bytes ≡ accepted chart
      → (analyse_says bytes allowance lent).number ≡ 12
      → analyse_says bytes allowance lent ≡ record { number = 12; place = 0; passes = allowance; blocks = block_count chart }
  pub checker_refusal : (bytes : List ℕ) (table : Lent) (refusal : Refusal)
      → checked bytes table ≡ Err refusal
      → check_says bytes table ≡ record { number = number_of refusal; place = place_of refusal; yes = 0 }
  pub totals_refusal : (bytes : List ℕ) (table : Lent) (figures : Figures) (refusal : Refusal)
      → totals bytes table figures ≡ Err refusal
      → total_says bytes table figures ≡ record { number = number_of refusal; place = place_of refusal; low = 0; high = 0 }
  -- no buffer grows or shrinks
  pub same_lengths : (bytes : List ℕ) (allowance : ℕ) (lent : Buffers) → SameLengths lent (analysed bytes allowance lent).buffers
  -- rules 12.7 and 17.5: checker, totals and deadline cannot tell two tables apart that differ beyond the used parts; that the bound cannot stands in
  -- `bounding`. That they write to nothing needs no field: what is lent to them are `&` slices
  pub checker_used : (bytes : List ℕ) (chart : Chart) (one other : Lent)
      → read_chart bytes ≡ accepted chart
      → SameUsed (plan_of chart) one other
      → checked bytes one ≡ checked bytes other
  pub totals_used : (bytes : List ℕ) (chart : Chart) (one other : Lent) (figures : Figures)
      → read_chart bytes ≡ accepted chart
      → SameUsed (plan_of chart) one other
      → totals bytes one figures ≡ totals bytes other figures
  pub judged_used : (bytes : List ℕ) (chart : Chart) (one other : Lent) (figures : Figures) (sheet : ClockSheet) (deadline : Deadline)
      → read_chart bytes ≡ accepted chart
      → SameUsed (plan_of chart) one other
      → judged bytes one figures sheet deadline ≡ judged bytes other figures sheet deadline
