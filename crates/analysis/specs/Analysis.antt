-- What the analysis answers and what it leaves in each lent buffer, for any bytes, any allowance and any buffers. Rules 11.11, 11.12, 12.2 to 12.4
-- and 12.8. Refusal 12 is an error of its own, `Unsettled`, that carries the allowance and B: so what an answer says in numbers follows from the
-- answer alone. `Refused` never carries it.
use Rattle.std.specs.Prelude.{ℕ, ◌*◌, Bool, ◌||◌, List, [], ◌∷◌, length, replicate, ltb, Result, Ok, Err}
use Rattle.lists.specs.Choice.{◌⇒◌, first_case}
use Rattle.lists.specs.Lists.{written}
use Rattle.refusals.specs.declared.Refusal.{Refusal}
use Rattle.refusals.specs.declared.Refusal.TheVariants.{ShortBuffer}
use Rattle.refusals.specs.declared.Refusal.TheVariants as refusals
use Rattle.refusals.specs.Refusals.{number_of, place_of}
use Rattle.chart.specs.Geometry.{most_touches}
use Rattle.chart.specs.Chart.{Read, accepted, refused, read_chart}
use Rattle.cache.specs.Ages.{Ages}
use Rattle.flow.specs.Flow.{Cell}
use Rattle.flow.specs.Pass.{Outcome, settled, spent, settle}
use Rattle.ages.specs.Plan.{Plan}
use Rattle.ages.specs.Charted.{plan_of, ages_flow}
use Rattle.classes.specs.Class.{table_classes}
use Rattle.tables.specs.Lent.{Lent, ages_used, marks_used, table_short, lent_of}
use Rattle.analysis.specs.declared.Unanalysed.{Unanalysed}
use Rattle.analysis.specs.declared.Unanalysed.TheVariants.{Unsettled, Refused}
use Rattle.analysis.specs.declared.SettledAfter.{SettledAfter}

-- Rule 12.2: the five buffers that the analysis writes to.
pub record Buffers : Type 0 where
  pub blocks : List ℕ
  pub must : List ℕ
  pub may : List ℕ
  pub marks : List ℕ
  pub classes : List ℕ

-- The answer, and the buffers at exit.
pub record Left : Type 0 where
  pub answer : Result SettledAfter Unanalysed
  pub buffers : Buffers

-- An analysis that settled after so many passes, with B; one that did not within an allowance, with B; and one that was refused before it began.
abbrev pub settled_after : ℕ → ℕ → Result SettledAfter Unanalysed
settled_after passes blocks = Ok (record { passes = passes; blocks = blocks })

abbrev pub unsettled : ℕ → ℕ → Result SettledAfter Unanalysed
unsettled allowance blocks = Err (Unsettled allowance blocks)

abbrev pub analysis_refused : Refusal → Result SettledAfter Unanalysed
analysis_refused refusal = Err (Refused refusal)

-- Rule 11.12: which refusal it is.
abbrev pub refusal_of : Unanalysed → Refusal
refusal_of (Unsettled allowance blocks) = refusals.Unsettled
refusal_of (Refused refusal) = refusal

-- The answer in numbers: number and place, both 0 for no refusal, then the pass count and B.
pub record AnalysedSaid : Type 0 where
  pub number : ℕ
  pub place : ℕ
  pub passes : ℕ
  pub blocks : ℕ

-- Rules 12.4 and 12.8: pass count and B of an analysis that settles, number and place of a refusal; only 12 has all four.
abbrev pub analysed_says : Result SettledAfter Unanalysed → AnalysedSaid
analysed_says (Ok done) = record { number = 0; place = 0; passes = done.passes; blocks = done.blocks }
analysed_says (Err (Unsettled allowance blocks)) =
    record { number = number_of refusals.Unsettled; place = place_of refusals.Unsettled; passes = allowance; blocks = blocks }
analysed_says (Err (Refused refusal)) = record { number = number_of refusal; place = place_of refusal; passes = 0; blocks = 0 }

-- The table in these buffers.
abbrev pub table_in : Buffers → Lent
table_in buffers = record { must = buffers.must; may = buffers.may; marks = buffers.marks }

-- The buffers as the clauses of a contract name them: at entry and at exit.
abbrev pub entry_buffers : List ℕ → List ℕ → List ℕ → List ℕ → List ℕ → Buffers
entry_buffers blocks must may marks classes =
    record {
      blocks = blocks;
      must = must;
      may = may;
      marks = marks;
      classes = classes;
    }

abbrev pub exit_buffers : List ℕ → List ℕ → List ℕ → List ℕ → List ℕ → Buffers
exit_buffers blocks must may marks classes =
    record {
      blocks = blocks;
      must = must;
      may = may;
      marks = marks;
      classes = classes;
    }

-- The answer with the buffers at exit.
abbrev pub exit_left : List ℕ → List ℕ → List ℕ → List ℕ → List ℕ → Result SettledAfter Unanalysed → Left
exit_left blocks must may marks classes answer =
    record { answer = answer; buffers = exit_buffers blocks must may marks classes }

-- Rule 12.2: how many classes are used.
abbrev pub classes_used : Plan → ℕ
classes_used plan = most_touches * plan.nodes

-- Rule 11.11, of the five buffers.
abbrev pub buffers_short : Plan → Buffers → Bool
buffers_short plan buffers =
    ltb (length buffers.blocks) plan.blocks
    || (table_short plan (table_in buffers) || ltb (length buffers.classes) (classes_used plan))

-- Rule 12.2: each used part is written, and what a buffer has beyond it stays.
abbrev pub fill : List ℕ → Lent → List ℕ → Buffers → Buffers
fill blocks table classes buffers =
    record {
      blocks = written blocks buffers.blocks;
      must = written table.must buffers.must;
      may = written table.may buffers.may;
      marks = written table.marks buffers.marks;
      classes = written classes buffers.classes;
    }

-- Rule 12.3: the used parts of a table, cleared.
abbrev pub zero_lent : Plan → Lent
zero_lent plan =
    record {
      must = replicate (ages_used plan) 0;
      may = replicate (ages_used plan) 0;
      marks = replicate (marks_used plan) 0;
    }

-- Rules 12.2 and 12.4: the buffers after an analysis that settled at this table; the block list is the chart's.
abbrev pub filled_by : Plan → List ℕ → List (Cell Ages) → Buffers → Buffers
filled_by plan blocks table buffers = fill blocks (lent_of plan table) (table_classes plan table) buffers

-- Rule 12.3: the buffers after refusal 12, zeros but for the block list.
abbrev pub filled_by_zeros : Plan → List ℕ → Buffers → Buffers
filled_by_zeros plan blocks buffers = fill blocks (zero_lent plan) (replicate (classes_used plan) 0) buffers

-- Rule 12.4 where the passes settle; where they do not, rule 11.12, and what rules 12.3 and 12.8 say of refusal 12.
unfoldable pub finish : Plan → List ℕ → ℕ → Buffers → Outcome Ages → Left
finish plan blocks allowance buffers (settled passes table) =
    record {
      answer = settled_after passes plan.blocks;
      buffers = filled_by plan blocks table buffers;
    }
finish plan blocks allowance buffers spent =
    record {
      answer = unsettled allowance plan.blocks;
      buffers = filled_by_zeros plan blocks buffers;
    }

-- Rule 12.3, of refusals 1 to 11: the buffers are those that were lent.
abbrev pub refuse : Buffers → Refusal → Left
refuse buffers refusal = record { answer = analysis_refused refusal; buffers = buffers }

-- Rules 11.11 and 11.12, in the order of their numbers; refusals 1 to 10 are the reader's.
abbrev pub analyse_read : ℕ → Buffers → Read → Left
analyse_read allowance buffers (accepted chart) =
    first_case (refuse buffers) ((buffers_short (plan_of chart) buffers ⇒ ShortBuffer) ∷ [])
    (finish (plan_of chart) chart.blocks allowance buffers (settle (ages_flow chart) allowance))
analyse_read allowance buffers (refused refusal) = refuse buffers refusal

-- Rule 12.3, of any bytes: refusals 1 to 12, or an analysis that settles.
unfoldable pub analysed : List ℕ → ℕ → Buffers → Left
analysed bytes allowance buffers = analyse_read allowance buffers (read_chart bytes)

-- The same in numbers.
abbrev pub analyse_says : List ℕ → ℕ → Buffers → AnalysedSaid
analyse_says bytes allowance buffers = analysed_says (analysed bytes allowance buffers).answer
