use Rattle.std.specs.Prelude.{Result}
use mathlib.Core.Path.{◌≡◌, ◌∙◌}
use Rattle.totals.specs.Totals.{totals}
use Rattle.demands.specs.Soundings.{loop_figures}
use Rattle.demands.proofs.Soundings.{sounded}
use Rattle.soundings.proofs.sounding.loop_totals.Goals as goal
use Rattle.totals.specs.declared.Totals.{Totals}
use Rattle.refusals.specs.declared.Refusal.{Refusal}

pub returns : goal.returns
returns c = let totalled : ◌≡◌ {A = (Result Totals Refusal)} _ (totals _ _ loop_figures) = c.total.ensures.value in
    totalled
    ∙ (λ i. totals (c.loop_chart-chart.ensures i) (c.loop_table-table.ensures i) loop_figures)
    ∙ sounded.loop-totals
