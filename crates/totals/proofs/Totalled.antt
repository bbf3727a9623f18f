-- What the totals answer for any bytes, by what the checker has said of the plan that was drawn of them.
use Rattle.std.specs.Prelude.{Err, Ok, false, true}
use mathlib.Core.List.{List}
use mathlib.Core.Path.{◌≡◌}
use Prim.Native.Nat.{ℕ}
use Rattle.refusals.specs.declared.Refusal.{Refusal}
use Rattle.refusals.specs.declared.Refusal.TheVariants.{NotPassing}
use Rattle.chart.specs.Chart.{Chart, accepted, read_chart}
use Rattle.ages.specs.Plan.{Plan}
use Rattle.plan.specs.Listed.{plan_in}
use Rattle.drawing.specs.Drawing.{Draws}
use Rattle.costs.specs.Costs.{Figures}
use Rattle.tables.specs.Lent.{Lent}
use Rattle.checker.specs.Checker.{checked_by}
use Rattle.checker.proofs.Tabled.{short-answered, no-answered, yes-answered}
use Rattle.totals.specs.Totals.{figure_cases, both_totals, totalled_by, totals}

module _ {bytes columns plan : List ℕ} {chart : Chart} (draws : Draws bytes columns plan) (read : read_chart bytes ≡ accepted chart) (lent : Lent) (figures : Figures) where
  abbrev held : Plan
  held = plan_in columns plan

  pub short-totals : (refusal : Refusal) → Err refusal ≡ checked_by held lent → Err refusal ≡ totals bytes lent figures
  unfolding totals
  short-totals refusal e = rw read (short-answered draws read lent Err (λ p. figure_cases p lent figures) (λ p. both_totals p lent figures) refusal e)

  pub no-totals : (Ok false) ≡ checked_by held lent → Err NotPassing ≡ totals bytes lent figures
  unfolding totals
  no-totals e = rw read (no-answered draws read lent Err (λ p. figure_cases p lent figures) (λ p. both_totals p lent figures) e)

  pub yes-totals : (Ok true) ≡ checked_by held lent → totalled_by held lent figures ≡ totals bytes lent figures
  unfolding totals totalled_by
  yes-totals e = rw read (yes-answered draws read lent Err (λ p. figure_cases p lent figures) (λ p. both_totals p lent figures) e)
