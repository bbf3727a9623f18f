use mathlib.Core.Path.{◌≡◌, sym, ◌∙◌}
use Rattle.chart.specs.Geometry.{all_passes}
use Rattle.analysis.specs.Analysis.{Left, table_in, analysed}
use Rattle.report.specs.Report.{zero_buffers}
use Rattle.demands.proofs.Soundings.{loop-nodes}
use Rattle.soundings.proofs.sounding.loop_table.Goals as goal

pub returns : goal.returns
returns c = let left : ◌≡◌ {A = Left} _ (analysed c.loop_chart-chart.result all_passes (zero_buffers 3 2)) = c.analyse.ensures.result_value in
    (λ i. table_in (left i).buffers)
    ∙ (λ i. table_in (analysed (c.loop_chart-chart.ensures i) all_passes (zero_buffers (sym loop-nodes i) 2)).buffers)
