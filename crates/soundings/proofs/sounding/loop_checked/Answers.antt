use mathlib.Core.Path.{◌∙◌}
use Rattle.checker.specs.Checker.{checked}
use Rattle.demands.proofs.Soundings.{sounded}
use Rattle.soundings.proofs.sounding.loop_checked.Goals as goal

pub returns : goal.returns
returns c = c.check.ensures.value
    ∙ (λ i. checked (c.loop_chart-chart.ensures i) (c.loop_table-table.ensures i))
    ∙ sounded.loop_checked
