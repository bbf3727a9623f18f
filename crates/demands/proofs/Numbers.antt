-- Of demand 1: which numbers each function's refusals have, and their values.
use Rattle.std.specs.Prelude.{Err, Ok, Result}
use Prim.Native.Nat.{ℕ, ◌≤◌}
use mathlib.Core.Bool.{Bool, true, false, cond}
use mathlib.Core.List.{List, []}
use mathlib.Core.Path.{◌≡◌, refl, ap, subst}
use native.Mathlib.Omega.{arith}
use borrow.Author.Tests.{leb-true}
use lib.Dec.{leb}
use Rattle.lists.specs.Choice.{Case, FirstApplies}
use Rattle.lists.specs.Answers.{every_answer}
use Rattle.lists.proofs.Choice.{applies-first, answer-passes}
use Rattle.refusals.specs.declared.Refusal.{Refusal}
use Rattle.refusals.specs.declared.Refusal.TheVariants.{ShortBuffer}
use Rattle.chart.specs.Header.{header_in, bytes_cases, header_read, header_says}
use Rattle.refusals.specs.Refusals.{number_of, place_of}
use Rattle.chart.specs.Chart.{Chart, Read, accepted, refused, read_chart, chart_cases, block_count}
use Rattle.chart.specs.Reading.{reading_of, reading, verdict_says}
use Rattle.cache.specs.Ages.{Ages}
use Rattle.flow.specs.Pass.{Outcome, settled, spent, settle}
use Rattle.ages.specs.Charted.{plan_of, ages_flow}
use Rattle.tables.specs.Lent.{Lent, table_short}
use Rattle.analysis.specs.Analysis.{Buffers, buffers_short, refuse, finish, analyse_read, analysed, AnalysedSaid, analysed_says, analysis_refused as refused_analysis}
use Rattle.checker.specs.Checker.{passing, checked_by, check_read, checked, checked_says}
use Rattle.demands.proofs.Refusals.{reading-refusals}
use Rattle.chart.specs.declared.headers.Header.{Header}

-- ---- the refusals that some rules give

-- What is said of a refusal by rules whose numbers go up to this.
said-most : (most : ℕ) (cases : List (Case Refusal)) (refusal : Refusal) → every_answer (λ r. leb (number_of r) most) cases ≡ true → FirstApplies cases refusal
    → number_of refusal ≤ most
said-most most cases refusal e f =
    leb-true (number_of refusal) most (answer-passes (λ r. leb (number_of r) most) cases refusal e f)

pub read-most : (bytes : List ℕ) (refusal : Refusal) → read_chart bytes ≡ refused refusal → number_of refusal ≤ 10
read-most bytes refusal e = said-most 10 (chart_cases bytes) refusal refl (reading-refusals.only bytes refusal e)

pub header-numbers : (bytes : List ℕ) → (header_says (header_read bytes)).number ≤ 8
unfolding header_read
header-numbers bytes = go (header_read bytes) refl
  where
    go : (r : Result Header Refusal) → header_read bytes ≡ r → (header_says r).number ≤ 8
    go (Ok header) e = omega arith
    go (Err refusal) e =
        said-most 8 (bytes_cases bytes) refusal refl
        (applies-first Err (bytes_cases bytes) (Ok (header_in bytes)) refusal (λ a b q. cc) (λ q. let z : ◌≡◌ {A = ℕ} 0 1 = cc in omega arith) e)

pub reading_numbers : (bytes : List ℕ) → (verdict_says (reading bytes).verdict).number ≤ 10
unfolding reading_of
reading_numbers bytes = go (read_chart bytes) refl
  where
    go : (r : Read) → read_chart bytes ≡ r → (verdict_says (reading_of r).verdict).number ≤ 10
    go (accepted chart) e = omega arith
    go (refused refusal) e = read-most bytes refusal e

pub checker_numbers : (bytes : List ℕ) (table : Lent) → (checked_says (checked bytes table)).number ≤ 11
unfolding checked checked_by
checker_numbers bytes table = go (read_chart bytes) refl
  where
    answer : (short pass : Bool) → (checked_says (cond short (Err ShortBuffer) (Ok pass))).number ≤ 11
    answer true pass = omega arith
    answer false true = omega arith
    answer false false = omega arith

    go : (r : Read) → read_chart bytes ≡ r → (checked_says (check_read table r)).number ≤ 11
    go (accepted chart) e = answer (table_short (plan_of chart) table) (passing (plan_of chart) table)
    go (refused refusal) e = omega (arith, read-most bytes refusal e)

pub analysis_numbers : (bytes : List ℕ) (allowance : ℕ) (lent : Buffers) → (analysed_says (analysed bytes allowance lent).answer).number ≤ 12
unfolding analysed finish
analysis_numbers bytes allowance lent = go (read_chart bytes) refl
  where
    answer : (chart : Chart) (short : Bool) (o : Outcome Ages) → (analysed_says (cond short (refuse lent ShortBuffer) (finish (plan_of chart) chart.blocks allowance lent o)).answer).number ≤ 12
    answer chart true o = omega arith
    answer chart false (settled k U) = omega arith
    answer chart false spent = omega arith

    go : (r : Read) → read_chart bytes ≡ r → (analysed_says (analyse_read allowance lent r).answer).number ≤ 12
    go (accepted chart) e = answer chart (buffers_short (plan_of chart) lent) (settle (ages_flow chart) allowance)
    go (refused refusal) e = omega (arith, read-most bytes refusal e)

-- ---- the values of a refusal that is given

pub header_refusal : (bytes : List ℕ) (refusal : Refusal) → header_read bytes ≡ Err refusal → header_says (header_read bytes) ≡ record { number = number_of refusal; place = place_of refusal; header = [] }
header_refusal bytes refusal e = ap header_says e

pub reading_refusal : (bytes : List ℕ) (refusal : Refusal) → (reading bytes).verdict ≡ Err refusal → verdict_says (reading bytes).verdict ≡ record { number = number_of refusal; place = place_of refusal; blocks = 0; header = [] }
reading_refusal bytes refusal e = ap verdict_says e

pub checker_refusal : (bytes : List ℕ) (table : Lent) (refusal : Refusal) → checked bytes table ≡ Err refusal → checked_says (checked bytes table) ≡ record { number = number_of refusal; place = place_of refusal; yes = 0 }
checker_refusal bytes table refusal e = ap checked_says e

pub analysis_refusal : (bytes : List ℕ) (allowance : ℕ) (lent : Buffers) (refusal : Refusal) → (analysed bytes allowance lent).answer ≡ refused_analysis refusal
    → analysed_says (analysed bytes allowance lent).answer ≡ record { number = number_of refusal; place = place_of refusal; passes = 0; blocks = 0 }
analysis_refusal bytes allowance lent refusal e = ap analysed_says e

pub analysis_refused : (bytes : List ℕ) (allowance : ℕ) (lent : Buffers) (refusal : Refusal) → (analysed bytes allowance lent).answer ≡ refused_analysis refusal → number_of refusal ≤ 11
unfolding analysed finish
analysis_refused bytes allowance lent refusal = go (read_chart bytes) refl
  where
    answer : (chart : Chart) (short : Bool) (o : Outcome Ages)
        → (cond short (refuse lent ShortBuffer) (finish (plan_of chart) chart.blocks allowance lent o)).answer ≡ refused_analysis refusal → number_of refusal ≤ 11
    answer chart true o e = let same : ShortBuffer ≡ refusal = cc in subst (λ (r : Refusal). number_of r ≤ 11) same (omega arith)
    answer chart false (settled k U) e = let z : ◌≡◌ {A = ℕ} 0 1 = cc in absurd (omega arith)
    answer chart false spent e = let z : ◌≡◌ {A = ℕ} 0 1 = cc in absurd (omega arith)

    go : (r : Read) → read_chart bytes ≡ r → (analyse_read allowance lent r).answer ≡ refused_analysis refusal → number_of refusal ≤ 11
    go (accepted chart) q e = answer chart (buffers_short (plan_of chart) lent) (settle (ages_flow chart) allowance) e
    go (refused other) q e =
        let same : other ≡ refusal = cc in
        subst (λ (r : Refusal). number_of r ≤ 11) same (omega (arith, read-most bytes other q))

pub analysis_unsettled : (bytes : List ℕ) (chart : Chart) (allowance : ℕ) (lent : Buffers) → read_chart bytes ≡ accepted chart → (analysed_says (analysed bytes allowance lent).answer).number ≡ 12
    → analysed_says (analysed bytes allowance lent).answer ≡ record { number = 12; place = 0; passes = allowance; blocks = block_count chart }
unfolding analysed finish
analysis_unsettled bytes chart allowance lent read =
    rw read (λ e. answer (buffers_short (plan_of chart) lent) (settle (ages_flow chart) allowance) e)
  where
    said : Bool → Outcome Ages → AnalysedSaid
    said short o = analysed_says (cond short (refuse lent ShortBuffer) (finish (plan_of chart) chart.blocks allowance lent o)).answer

    answer : (short : Bool) (o : Outcome Ages) → (said short o).number ≡ 12 → said short o ≡ record { number = 12; place = 0; passes = allowance; blocks = block_count chart }
    answer true o e = absurd (omega arith)
    answer false (settled k U) e = absurd (omega arith)
    answer false spent e = refl
