-- The checker of an accepted chart: it says yes exactly if the table passes, by the used parts of a lent table alone.
use Rattle.std.specs.Prelude.{Ok, Result}
use Prim.Native.Nat.{ℕ}
use mathlib.Core.Bool.{Bool, true, false}
use mathlib.Core.List.{List}
use mathlib.Core.Logic.{◌⊎◌, inl, inr}
use mathlib.Core.Path.{◌≡◌, refl, sym, ap, ◌∙◌}
use native.Mathlib.Omega.{arith}
use Rattle.chart.specs.Chart.{Chart, accepted, read_chart}
use Rattle.tables.specs.Lent.{Lent, table_short, TablePasses, SameUsed}
use Rattle.ages.specs.Charted.{plan_of}
use Rattle.ages.proofs.Charting.{chart-sound}
use Rattle.checker.specs.Checker.{passing, checked, checked_says}
use Rattle.tables.proofs.Laid.{long-enough, not_short}
use Rattle.checker.specs.Inner.{answer_of}
use Rattle.checker.proofs.Answers.{checked-accepted}
use Rattle.checker.proofs.Deciding.{passing-yes, yes-long, yes-passing}
use Rattle.checker.proofs.Used.{passing-used}
use Rattle.demands.specs.Demand1.{TableRoom, CheckerRefusals}
use Rattle.refusals.specs.declared.Refusal.{Refusal}

-- ---- what it answers

says-yes : (short pass : Bool) → (checked_says (answer_of short pass)).yes ≡ 1 → (short ≡ false) × (pass ≡ true)
says-yes true pass e = absurd (omega arith)
says-yes false true e = (refl, refl)
says-yes false false e = absurd (omega arith)

-- ---- room for a table

module _ (chart : Chart) (table : Lent) where
  pub room-short : TableRoom chart table → table_short (plan_of chart) table ≡ false
  room-short room = not_short (plan_of chart) table room.must room.may room.marks

  pub short-room : table_short (plan_of chart) table ≡ false → TableRoom chart table
  short-room e =
      let long = long-enough (plan_of chart) table e in
      record { must = long.0; may = long.1.0; marks = long.1.1 }

module _ (bytes : List ℕ) (chart : Chart) (table : Lent) (read : read_chart bytes ≡ accepted chart) where
  pub checker-refusals : CheckerRefusals bytes chart table
  checker-refusals =
      record {
        not_short = room-short chart table;
        has_room = short-room chart table;
        short = λ e. checked-accepted bytes chart table read ∙ (rw e);
        answers = λ e. answers (passing (plan_of chart) table) (checked-accepted bytes chart table read ∙ (rw e));
      }
    where
      answers : (pass : Bool) → checked bytes table ≡ Ok pass → (checked bytes table ≡ Ok true) ⊎ (checked bytes table ≡ Ok false)
      answers true e = inl e
      answers false e = inr e

  pub checker_yes : (checked_says (checked bytes table)).yes ≡ 1 → TablePasses (plan_of chart) table
  checker_yes e =
      let both = says-yes (table_short (plan_of chart) table) (passing (plan_of chart) table) (ap (λ (c : Result Bool Refusal). (checked_says c).yes) (sym (checked-accepted bytes chart table read)) ∙ e) in
      passing-yes (plan_of chart) table (chart-sound bytes chart read) both.0 both.1

  passing-checked : TablePasses (plan_of chart) table → checked bytes table ≡ Ok true
  passing-checked p = checked-accepted bytes chart table read ∙ (rw (yes-long (plan_of chart) table p, yes-passing (plan_of chart) table p))

  pub yes_checker : TablePasses (plan_of chart) table → (checked_says (checked bytes table)).yes ≡ 1
  yes_checker p =
      ap (λ (c : Result Bool Refusal). (checked_says c).yes) (passing-checked p)

-- Rule 12.7, of the checker.
pub checker_used : (bytes : List ℕ) (chart : Chart) (one other : Lent) → read_chart bytes ≡ accepted chart → SameUsed (plan_of chart) one other → checked bytes one ≡ checked bytes other
checker_used bytes chart one other read same =
    checked-accepted bytes chart one read
    ∙ (λ i. answer_of ((same.one_long ∙ sym same.other_long) i) (passing-used (plan_of chart) (chart-sound bytes chart read) one other same i))
    ∙ sym (checked-accepted bytes chart other read)
