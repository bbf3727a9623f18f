-- What is answered for any bytes and a lent table, where a short table and one that does not pass are refused before all else: from what the checker has
-- said of the plan that was drawn. It holds of whatever is refused after these two, and answered where nothing is.
use Rattle.std.specs.Prelude.{Bool, Err, Ok, Result, false, true}
use Prim.Native.Nat.{ℕ}
use mathlib.Core.Bool.{not}
use mathlib.Core.List.{List, ◌∷◌}
use mathlib.Core.Path.{◌≡◌, sym, ap, ◌∙◌}
use Rattle.lists.specs.Choice.{Case, ◌⇒◌, first_case}
use Rattle.refusals.specs.declared.Refusal.{Refusal}
use Rattle.refusals.specs.declared.Refusal.TheVariants.{ShortBuffer, NotPassing}
use Rattle.chart.specs.Chart.{Chart, accepted, read_chart}
use Rattle.ages.specs.Plan.{Plan}
use Rattle.ages.specs.Charted.{plan_of}
use Rattle.plan.specs.Listed.{nodes_in, blocks_in, plan_in}
use Rattle.drawing.specs.Drawing.{Draws}
use Rattle.tables.specs.Lent.{Lent, table_short}
use Rattle.tables.specs.Inner.{Roomy}
use Rattle.tables.proofs.Laid.{long-enough}
use Rattle.checker.specs.Checker.{passing, checked_by}
use Rattle.checker.specs.Inner.{answer_of}
use Rattle.checker.proofs.Answers.{checked-by, short-only, no-only, yes-only}

module _ {X : Type 0} {bytes columns plan : List ℕ} {chart : Chart} (draws : Draws bytes columns plan) (read : read_chart bytes ≡ accepted chart) (lent : Lent)
    (say : Refusal → X) (cases : Plan → List (Case Refusal)) (otherwise : Plan → X) where
  abbrev held : Plan
  held = plan_in columns plan

  abbrev answered : X
  answered =
      first_case say ((table_short (plan_of chart) lent ⇒ ShortBuffer) ∷ (not (passing (plan_of chart) lent) ⇒ NotPassing) ∷ cases (plan_of chart)) (otherwise (plan_of chart))

  -- What was answered for the lists is answered for the chart's plan.
  checked-answer : (answer : Result Bool Refusal) → answer ≡ checked_by held lent → answer_of (table_short (plan_of chart) lent) (passing (plan_of chart) lent) ≡ answer
  checked-answer answer e = sym (e ∙ ap (λ (p : Plan). checked_by p lent) (draws.plan_is chart read) ∙ checked-by (plan_of chart) lent)

  pub short-answered : (refusal : Refusal) → Err refusal ≡ checked_by held lent → say refusal ≡ answered
  short-answered refusal e =
      let short = short-only refusal (table_short (plan_of chart) lent) (passing (plan_of chart) lent) (checked-answer (Err refusal) e) in
      rw (short.0, short.1)

  pub no-answered : (Ok false) ≡ checked_by held lent → say NotPassing ≡ answered
  no-answered e =
      let both = no-only (table_short (plan_of chart) lent) (passing (plan_of chart) lent) (checked-answer (Ok false) e) in
      rw (both.0, both.1)

  pub yes-answered : (Ok true) ≡ checked_by held lent → first_case say (cases held) (otherwise held) ≡ answered
  yes-answered e =
      let both = yes-only (table_short (plan_of chart) lent) (passing (plan_of chart) lent) (checked-answer (Ok true) e) in
      ap (λ (p : Plan). first_case say (cases p) (otherwise p)) (draws.plan_is chart read) ∙ (rw (both.0, both.1))

-- A table that passes is long enough.
pub passing-roomy : {bytes columns plan : List ℕ} → Draws bytes columns plan → (lent : Lent) → Ok true ≡ checked_by (plan_in columns plan) lent → Roomy (nodes_in plan) (blocks_in plan) lent.must lent.may lent.marks
passing-roomy {columns = columns} {plan = plan} draws lent e =
    let both = yes-only (table_short (plan_in columns plan) lent) (passing (plan_in columns plan) lent) (sym (e ∙ checked-by (plan_in columns plan) lent)) in
    let long = long-enough (plan_in columns plan) lent both.0 in
    record { must_room = long.0; may_room = long.1.0; marks_room = long.1.1 }
