-- The bound of a certificate, of an accepted chart: when each refusal is given and when the bound is, and that nothing counts beyond the used parts
-- of a table.
use Rattle.std.specs.Prelude.{Err, Ok, Result}
use Prim.Native.Nat.{ℕ, ◌+◌, ◌≤◌, ◌<◌}
use mathlib.Core.Bool.{Bool, true, false, not, ◌||◌, false≢true}
use mathlib.Core.List.{List, [], ◌∷◌}
use mathlib.Core.Logic.{◌⊎◌, inl, inr}
use mathlib.Core.Path.{◌≡◌, refl, sym, ap, ◌∙◌}
use native.Mathlib.Omega.{arith}
use borrow.Author.Tests.{eqb-true, ltb-false, le-ltb, lt-ltb, not-false}
use lib.Dec.{eqb, ltb}
use Rattle.lists.specs.Choice.{◌⇒◌, FirstApplies, NoneApplies, first_case}
use Rattle.lists.specs.Lists.{Among}
use Rattle.lists.proofs.Choice.{or-true, answer-passes, first-applies, first-otherwise, applies-first, none-applies, none_passes, passes_none}
use Rattle.lists.proofs.Firsts.{first-is}
use Rattle.refusals.specs.declared.Refusal.{Refusal}
use Rattle.refusals.specs.declared.Refusal.TheVariants.{ShortBuffer, NotPassing, MissBelowHit, FactsLength, NumberOutOfRange, CertificateFails}
use Rattle.refusals.specs.Refusals.{number_of}
use Rattle.chart.specs.Chart.{Chart, Read, accepted, refused, read_chart, chart_cases}
use Rattle.cache.specs.Ages.{Ages}
use Rattle.flow.specs.Flow.{Cell, cell_at}
use Rattle.facts.specs.declared.Side.{Side}
use Rattle.facts.specs.declared.Side.TheVariants.{High, Low}
use Rattle.facts.specs.Facts.{openings}
use Rattle.facts.specs.Certificate.{Claim, first_failing, highest, lowest, in_range, lengths_fit}
use Rattle.facts.proofs.Marks.{failing-same, highest-same, lowest-same}
use Rattle.ages.specs.Plan.{Plan, arrows_in}
use Rattle.ages.specs.Charted.{plan_of}
use Rattle.ages.proofs.Charting.{chart-sound}
use Rattle.tables.specs.Lent.{Lent, table_short, SameUsed, TablePasses}
use Rattle.tables.proofs.Used.{used-mark, used-table}
use Rattle.checker.specs.Checker.{marked, passing, checked}
use Rattle.checker.specs.Inner.{answer_of}
use Rattle.checker.proofs.Answers.{checked-accepted, short-only, no-only}
use Rattle.checker.proofs.Deciding.{passing-yes, yes-long, yes-passing}
use Rattle.checker.proofs.Used.{passing-used}
use Rattle.costs.specs.Costs.{visit_cost, classes_at, kept_charge}
use Rattle.certificate.specs.Bound.{Question, side_rate, claim_of, loads_of, side_bound, bound_of, failing_at, question_cases, bound_cases, bound_read, bounded, bounded_say, bound_says}
use Rattle.demands.specs.Bounding.{LengthsFit, NumbersFit, HoldsAt, Boundable, BoundRefusals, Bounding}
use Rattle.demands.proofs.Refusals.{reading-refusals}
use Rattle.demands.proofs.Ranged.{lengths-only, lengths-given, numbers-only, numbers-given, holds-only, holds-given}

-- What is never so is not.
never : (t : Bool) → (t ≡ true → ⊥) → not t ≡ true
never true h = absurd (h refl)
never false h = refl

module _ (bytes : List ℕ) (chart : Chart) (table : Lent) (question : Question) (read : read_chart bytes ≡ accepted chart) where
  abbrev plan : Plan
  plan = plan_of chart

  pub bounded-accepted : bounded bytes table question ≡ first_case Err (bound_cases plan table question) (bound_of plan table question)
  unfolding bounded
  bounded-accepted = rw read

  -- Where a bound is given, no rule applies, and it is the bound; where a refusal is, its rule is the first.
  pub given-none : (bound : ℕ) → bounded bytes table question ≡ Ok bound → NoneApplies (bound_cases plan table question)
  given-none bound e =
      none-applies Err (bound_cases plan table question) (bound_of plan table question) (Ok bound) (λ x q. let z : ◌≡◌ {A = ℕ} 0 1 = cc in omega arith) (sym bounded-accepted ∙ e)

  pub given-bound : (bound : ℕ) → bounded bytes table question ≡ Ok bound → bound ≡ side_bound question.side plan table question
  given-bound bound e =
      let is = sym e ∙ bounded-accepted ∙ first-otherwise Err (bound_cases plan table question) (bound_of plan table question) (given-none bound e) in
      cc

  given-first : (refusal : Refusal) → bounded bytes table question ≡ Err refusal → FirstApplies (bound_cases plan table question) refusal
  given-first refusal e =
      applies-first Err (bound_cases plan table question) (bound_of plan table question) refusal (λ a b q. cc) (λ q. let z : ◌≡◌ {A = ℕ} 0 1 = cc in omega arith) (sym bounded-accepted ∙ e)

  -- What the rules turned round say, and the other way.
  pub none-boundable : NoneApplies (bound_cases plan table question) → Boundable chart table question
  none-boundable none =
      record {
        passing = passing-yes plan table (chart-sound bytes chart read) none.0 (not-false (passing plan table) none.1.0);
        costs = ltb-false question.costs.miss question.costs.hit none.1.1.0;
        lengths = lengths-only chart.header.nodes question.facts question.certificate (not-false _ none.1.1.1.0);
        numbers = numbers-only question.facts question.certificate (not-false _ none.1.1.1.1.0);
        holds = λ n h. holds-only chart table question n h (not-false _ (none_passes chart.header.nodes _ none.1.1.1.1.1.0 n h));
      }

  boundable-none : Boundable chart table question → NoneApplies (bound_cases plan table question)
  boundable-none boundable = (
    yes-long plan table boundable.passing,
    (
      ap not (yes-passing plan table boundable.passing),
      (
        le-ltb question.costs.miss question.costs.hit boundable.costs,
        (
          ap not (lengths-given chart.header.nodes question.facts question.certificate boundable.lengths),
          (
            ap not (numbers-given question.facts question.certificate boundable.numbers),
            (passes_none chart.header.nodes _ (λ n h. ap not (holds-given chart table question n h (boundable.holds n h))), tt),
          ),
        ),
      ),
    ),
  )

  -- What the checker answers decides the first two rules.
  checked-cases : (answer : Result Bool Refusal) → checked bytes table ≡ answer → answer_of (table_short plan table) (passing plan table) ≡ answer
  checked-cases answer e = sym (checked-accepted bytes chart table read) ∙ e

  first-refused : (refusal : Refusal) → FirstApplies (bound_cases plan table question) refusal → bounded bytes table question ≡ Err refusal
  first-refused refusal f = bounded-accepted ∙ first-applies Err (bound_cases plan table question) (bound_of plan table question) refusal f

  short-refused : checked bytes table ≡ Err ShortBuffer → bounded bytes table question ≡ Err ShortBuffer
  short-refused e =
      first-refused ShortBuffer (inl ((short-only ShortBuffer (table_short plan table) (passing plan table) (checked-cases (Err ShortBuffer) e)).0, refl))

  failing-refused : checked bytes table ≡ Ok false → bounded bytes table question ≡ Err NotPassing
  failing-refused e =
      let both = no-only (table_short plan table) (passing plan table) (checked-cases (Ok false) e) in
      first-refused NotPassing (inr (both.0, inl (ap not both.1, refl)))

  -- And the rules after them, each where those before it do not apply.
  module _ (passes : TablePasses plan table) where
    -- A refusal of the question is the first that applies.
    asked-refused : (refusal : Refusal) → FirstApplies (question_cases plan table question) refusal → bounded bytes table question ≡ Err refusal
    asked-refused refusal f = first-refused refusal (inr (yes-long plan table passes, inr (ap not (yes-passing plan table passes), f)))

    costs-refused : question.costs.miss < question.costs.hit → bounded bytes table question ≡ Err MissBelowHit
    costs-refused h = asked-refused MissBelowHit (inl (lt-ltb question.costs.miss question.costs.hit h, refl))

    module _ (cheap : question.costs.hit ≤ question.costs.miss) where
      costs-fit : ltb question.costs.miss question.costs.hit ≡ false
      costs-fit = le-ltb question.costs.miss question.costs.hit cheap

      lengths-refused : (LengthsFit chart.header.nodes question.facts question.certificate → ⊥) → bounded bytes table question ≡ Err FactsLength
      lengths-refused unfit =
          asked-refused FactsLength (inr (costs-fit, inl (never _ (λ e. unfit (lengths-only chart.header.nodes question.facts question.certificate e)), refl)))

      module _ (long : LengthsFit chart.header.nodes question.facts question.certificate) where
        lengths-pass : not (lengths_fit chart.header.nodes question.facts question.certificate) ≡ false
        lengths-pass = ap not (lengths-given chart.header.nodes question.facts question.certificate long)

        numbers-refused : (NumbersFit question.facts question.certificate → ⊥) → bounded bytes table question ≡ Err NumberOutOfRange
        numbers-refused unfit =
            asked-refused NumberOutOfRange
            (inr (costs-fit, inr (lengths-pass, inl (never _ (λ e. unfit (numbers-only question.facts question.certificate e)), refl))))

        holding-refused : NumbersFit question.facts question.certificate
            → (n : ℕ)
            → n < chart.header.nodes
            → ((k : ℕ) → k < n → HoldsAt chart table (claim_of plan table question) k)
            → (HoldsAt chart table (claim_of plan table question) n → ⊥)
            → bounded bytes table question ≡ Err (CertificateFails n)
        holding-refused fit n inside before fails =
            let at : failing_at plan table question ≡ n =
            first-is chart.header.nodes _ n inside (never _ (λ e. fails (holds-only chart table question n inside e)))
            (λ k h. ap not (holds-given chart table question k (omega arith) (before k h)))
            in
            asked-refused (CertificateFails n)
            (inr (costs-fit, inr (lengths-pass, inr (ap not (numbers-given question.facts question.certificate fit), inl (lt-ltb _ chart.header.nodes (omega arith), ap CertificateFails at)))))

  pub bound-refusals : BoundRefusals bytes chart table question
  bound-refusals =
      record {
        given = first-refused;
        only = given-first;
        order = refl;
        short = short-refused;
        not_passing = failing-refused;
        dear-hit = costs-refused;
        lengths = lengths-refused;
        ranges = numbers-refused;
        fails = holding-refused;
        bound = λ boundable. bounded-accepted ∙ first-otherwise Err (bound_cases plan table question) (bound_of plan table question) (boundable-none boundable);
        only_bound = λ bound e. none-boundable (given-none bound e);
      }

-- ---- numbers

-- Whether a number is in a list.
abbrev one_of : List ℕ → ℕ → Bool
one_of [] n = false
one_of (x ∷ xs) n = eqb n x || one_of xs n

one-of : (xs : List ℕ) (n : ℕ) → one_of xs n ≡ true → Among n xs
one-of [] n e = absurd (false≢true e)
one-of (x ∷ xs) n e = go (eqb n x) refl (one-of xs n)
  where
    go : (t : Bool) → eqb n x ≡ t → (one_of xs n ≡ true → Among n xs) → (n ≡ x) ⊎ Among n xs
    go true d rest = inl (eqb-true n x d)
    go false d rest = inr (rest (or-true (eqb n x) (one_of xs n) e d))

-- Rule 18.9: which there are.
abbrev given : List ℕ
given = 0 ∷ 1 ∷ 2 ∷ 3 ∷ 4 ∷ 5 ∷ 6 ∷ 7 ∷ 8 ∷ 9 ∷ 10 ∷ 11 ∷ 13 ∷ 15 ∷ 23 ∷ 24 ∷ 25 ∷ []

bound-numbers : (bytes : List ℕ) (table : Lent) (question : Question) → Among (bound_says bytes table question).number given
unfolding bounded
bound-numbers bytes table question = go (read_chart bytes) refl
  where
    one : (refusal : Refusal) → one_of given (number_of refusal) ≡ true → Among (number_of refusal) given
    one refusal e = one-of given (number_of refusal) e

    answer : (chart : Chart) (b : Result ℕ Refusal) → first_case Err (bound_cases (plan_of chart) table question) (bound_of (plan_of chart) table question) ≡ b → Among (bounded_say b).number given
    answer chart (Ok bound) e = inl refl
    answer chart (Err refusal) e =
        one refusal
        (answer-passes (λ r. one_of given (number_of r)) (bound_cases (plan_of chart) table question) refusal refl
        (applies-first Err (bound_cases (plan_of chart) table question) (bound_of (plan_of chart) table question) refusal (λ a b q. cc) (λ q. let z : ◌≡◌ {A = ℕ} 0 1 = cc in omega arith) e))

    go : (r : Read) → read_chart bytes ≡ r → Among (bounded_say (bound_read table question r)).number given
    go (accepted chart) e = answer chart (first_case Err (bound_cases (plan_of chart) table question) (bound_of (plan_of chart) table question)) refl
    go (refused refusal) e = one refusal (answer-passes (λ r. one_of given (number_of r)) (chart_cases bytes) refusal refl (reading-refusals.only bytes refusal e))

-- ---- rule 18.9, of the used parts of a table

module _ (bytes : List ℕ) (chart : Chart) (one other : Lent) (question : Question) (read : read_chart bytes ≡ accepted chart) (same : SameUsed (plan_of chart) one other) where
  -- The claim of a table, with the marks of the other.
  abbrev claim_by : List (Cell Ages) → Claim
  claim_by T =
      record {
        side = question.side;
        course = record {
          nodes = chart.header.nodes;
          entry = chart.header.entry;
          arrows = arrows_in (plan_of chart);
          marked = marked other;
          cost = λ n. visit_cost (classes_at (plan_of chart) n) (side_rate question.side question.costs) (cell_at T n);
        };
        facts = question.facts;
        certificate = question.certificate;
      }

  mark-same : (n : ℕ) → n < chart.header.nodes → marked one n ≡ marked other n
  mark-same n h i = not (eqb (used-mark (plan_of chart) one other same n h i) 0)

  fails-same : failing_at (plan_of chart) one question ≡ failing_at (plan_of chart) other question
  fails-same =
      failing-same (claim_of (plan_of chart) one question) (marked other) mark-same
      ∙ ap (λ (T : List (Cell Ages)). first_failing (claim_by T)) (used-table (plan_of chart) one other same)

  loads-same : loads_of (plan_of chart) one question ≡ loads_of (plan_of chart) other question
  loads-same =
      ap (λ (T : List (Cell Ages)). kept_charge (plan_of chart) T (record { costs = question.costs; floors = []; ceilings = openings chart.header.nodes question.facts }))
      (used-table (plan_of chart) one other same)

  bound-same : (side : Side) → side_bound side (plan_of chart) one question ≡ side_bound side (plan_of chart) other question
  bound-same High =
      let highs = highest-same (claim_of (plan_of chart) one question) (marked other) mark-same ∙ ap (λ (T : List (Cell Ages)). highest (claim_by T)) (used-table (plan_of chart) one other same) in
      λ i. highs i + loads-same i
  bound-same Low =
      lowest-same (claim_of (plan_of chart) one question) (marked other) mark-same ∙ ap (λ (T : List (Cell Ages)). lowest (claim_by T)) (used-table (plan_of chart) one other same)

  abbrev answer_by : Bool → Bool → ℕ → ℕ → Result ℕ Refusal
  answer_by short pass failing bound =
      first_case Err
      ((short ⇒ ShortBuffer)
      ∷ (not pass ⇒ NotPassing)
      ∷ (ltb question.costs.miss question.costs.hit ⇒ MissBelowHit)
      ∷ (not (lengths_fit chart.header.nodes question.facts question.certificate) ⇒ FactsLength)
      ∷ (not (in_range question.facts question.certificate) ⇒ NumberOutOfRange)
      ∷ (ltb failing chart.header.nodes ⇒ CertificateFails failing)
      ∷ [])
      (Ok bound)

  bounded-used : bounded bytes one question ≡ bounded bytes other question
  bounded-used =
      bounded-accepted bytes chart one question read
      ∙ (λ i. answer_by ((same.one_long ∙ sym same.other_long) i) (passing-used (plan_of chart) (chart-sound bytes chart read) one other same i) (fails-same i) (bound-same question.side i))
      ∙ sym (bounded-accepted bytes chart other question read)

pub bounding : Bounding
unfolding bounded
bounding =
    record {
      chart_first = λ bytes table question refusal e. rw e;
      refusals = bound-refusals;
      numbers = bound-numbers;
      bound_said = λ bytes table question bound e. ap bounded_say e;
      refusal_said = λ bytes table question refusal e. ap bounded_say e;
      used = bounded-used;
    }
