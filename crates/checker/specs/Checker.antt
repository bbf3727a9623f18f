-- What the checker answers for any bytes and any lent table. Rules 7.2 to 7.7 a second time, as tests that run, and rules 11.11, 12.5, 12.8 and
-- 12.9; demand 2 has it that the tests and `TablePasses` agree. An age is held to the limit of its column, which for a chart is A. Any mark but 0
-- makes a node marked, and that it is 1 is a test of its own. In numbers yes is 1 and no is 0.
use Rattle.std.specs.Prelude.{ℕ, Bool, not, ◌&&◌, ◌||◌, List, [], ◌∷◌, get_or, leb, eqb, Err, Ok, Result, false, true}
use Rattle.lists.specs.Choice.{◌⇒◌, first_case, every, every_of}
use Rattle.refusals.specs.declared.Refusal.TheVariants.{ShortBuffer}
use Rattle.refusals.specs.Refusals.{number_of, place_of}
use Rattle.chart.specs.Chart.{Read, accepted, refused, read_chart}
use Rattle.cache.specs.Ages.{Columns, Ages, age_of}
use Rattle.layout.specs.Rows.{row_at}
use Rattle.ages.specs.Plan.{Plan, columns_of, arrows_in, plan_flow}
use Rattle.ages.specs.Charted.{plan_of}
use Rattle.tables.specs.Lent.{Lent, ages_at, table_short}
use Rattle.refusals.specs.declared.Refusal.{Refusal}

-- ---- tests of ages, column by column

-- Rule 7.3, of a row: each age is at most its column's limit.
abbrev pub fits : Columns → Ages → Bool
fits columns a =
    every columns.count
    (λ column.
    leb (age_of a.must column) (columns.must_limit column)
    && leb (age_of a.may column) (columns.may_limit column))

-- Rule 7.4, of a row: every age is 0.
abbrev pub zeroed : ℕ → Ages → Bool
zeroed count a = every count (λ column. eqb (age_of a.must column) 0 && eqb (age_of a.may column) 0)

-- Rules 7.5 and 7.6, of two rows: no must age of b is below that of a, and no may age above it.
abbrev pub covers : ℕ → Ages → Ages → Bool
covers count a b =
    every count
    (λ column.
    leb (age_of a.must column) (age_of b.must column) && leb (age_of b.may column) (age_of a.may column))

-- ---- tests of a lent table

-- Rule 7.2, but that any number other than 0 counts as 1.
abbrev pub marked : Lent → ℕ → Bool
marked lent n = not (eqb (get_or lent.marks n 0) 0)

-- Row n of a table of so many blocks.
abbrev pub row_ages : ℕ → List ℕ → List ℕ → ℕ → Ages
row_ages count must may n = record { must = row_at count must n; may = row_at count may n }

-- Rules 7.5 and 7.6: node t is marked, and its ages allow these.
abbrev pub allows : ℕ → Lent → Ages → ℕ → Bool
allows count lent a t = marked lent t && covers count a (row_ages count lent.must lent.may t)

module _ (plan : Plan) (lent : Lent) where
  -- Rule 7.2, at node n.
  abbrev pub mark_plain : ℕ → Bool
  mark_plain n = leb (get_or lent.marks n 0) 1

  -- Rule 7.3, at node n.
  abbrev pub ages_fit : ℕ → Bool
  ages_fit n = fits (columns_of plan) (ages_at plan lent n)

  -- Rule 7.4, at node n.
  abbrev pub unmarked_zero : ℕ → Bool
  unmarked_zero n = marked lent n || zeroed plan.blocks (ages_at plan lent n)

  -- Rule 7.5: the entry allows the start.
  abbrev pub entry_allows : Bool
  entry_allows = allows plan.blocks lent (plan_flow plan).start plan.entry

  -- Rule 7.6, at node n: the target of each arrow allows what the node has after its record.
  abbrev pub arrows_allow : ℕ → Bool
  arrows_allow n = not (marked lent n) || every_of (allows plan.blocks lent ((plan_flow plan).step n (ages_at plan lent n))) (arrows_in plan n)

  -- Rules 7.2 to 7.4 and 7.6, at node n.
  abbrev pub node_passing : ℕ → Bool
  node_passing n = mark_plain n && (ages_fit n && (unmarked_zero n && arrows_allow n))

  -- Rule 7.7, as a test.
  unfoldable pub passing : Bool
  passing = entry_allows && every plan.nodes node_passing

-- ---- answers

-- Rule 12.5, of an accepted chart's plan: refusal 11 by rule 11.11, and then yes or no.
unfoldable pub checked_by : Plan → Lent → Result Bool Refusal
checked_by plan lent =
    first_case Err ((table_short plan lent ⇒ ShortBuffer) ∷ []) (Ok (passing plan lent))

-- Rule 12.5: refusals 1 to 10 are the reader's.
abbrev pub check_read : Lent → Read → Result Bool Refusal
check_read lent (accepted chart) = checked_by (plan_of chart) lent
check_read lent (refused refusal) = Err refusal

-- Rule 12.5, of any bytes.
unfoldable pub checked : List ℕ → Lent → Result Bool Refusal
checked bytes lent = check_read lent (read_chart bytes)

-- The answer in numbers, as rule 12.9 has them: number and place, both 0 for no refusal, then 1 for yes and 0 for no.
pub record CheckedSaid : Type 0 where
  pub number : ℕ
  pub place : ℕ
  pub yes : ℕ

-- Rules 12.5 and 12.8: yes, no, or a refusal with nothing but its number and its place.
abbrev pub checked_says : Result Bool Refusal → CheckedSaid
checked_says (Ok true) = record { number = 0; place = 0; yes = 1 }
checked_says (Ok false) = record { number = 0; place = 0; yes = 0 }
checked_says (Err refusal) = record { number = number_of refusal; place = place_of refusal; yes = 0 }

-- The same of any bytes.
abbrev pub check_says : List ℕ → Lent → CheckedSaid
check_says bytes lent = checked_says (checked bytes lent)
