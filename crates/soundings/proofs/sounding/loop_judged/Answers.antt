use Rattle.std.specs.Prelude.{Result}
use mathlib.Core.Path.{◌≡◌, ◌∙◌}
use lib.Ieee.{of_bits}
use Rattle.clock.specs.Sounded.{eighth, two, sheet, latest}
use Rattle.deadline.specs.Deadline.{judged}
use Rattle.demands.specs.Soundings.{loop_figures}
use Rattle.demands.specs.Timely.{most}
use Rattle.demands.proofs.Soundings.{sounded}
use Rattle.soundings.proofs.sounding.loop_judged.Goals as goal
use Rattle.deadline.specs.declared.Judged.{Judged}
use Rattle.refusals.specs.declared.Refusal.{Refusal}

pub returns : goal.returns
unfolding of_bits
returns c = let told : ◌≡◌ {A = (Result Judged Refusal)} _ (judged _ _ loop_figures (sheet eighth two) (latest most)) = c.judge.ensures.value in
    told
    ∙ (λ i. judged (c.loop_chart-chart.ensures i) (c.loop_table-table.ensures i) loop_figures (sheet eighth two) (latest most))
    ∙ sounded.loop_judged
