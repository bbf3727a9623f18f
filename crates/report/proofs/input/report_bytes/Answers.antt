use Prim.Native.Nat.{ℕ}
use mathlib.Core.List.{List}
use mathlib.Core.Path.{◌≡◌, ◌∙◌}
use Rattle.chart.specs.Geometry.{most_nodes, most_blocks, all_passes}
use Rattle.analysis.specs.Analysis.{Left, analysed}
use Rattle.report.specs.Report.{report_of, zero_buffers}
use Rattle.report.specs.Ending.{refused_by}
use Rattle.report.specs.Written.{text_of}
use Rattle.report.proofs.Inputs.{nodes-counted}
use Rattle.report.proofs.input.report_bytes.Goals as goal

pub returns-clause-value : goal.returns-clause-value
returns-clause-value c = let bytes : List ℕ = c.args.chart.now in
    let left : ◌≡◌ {A = Left} _ (analysed bytes all_passes (zero_buffers most_nodes most_blocks)) = c.analyse-answer.ensures.result_value in c.written.ensures.value
    ∙ (λ i. text_of (report_of (c.nodes_of-nodes.ensures.1 i) (left i).buffers.classes (left i).answer) (refused_by (left i).answer))
    ∙ (λ i. text_of (nodes-counted bytes all_passes (zero_buffers most_nodes most_blocks) i) (refused_by (analysed bytes all_passes (zero_buffers most_nodes most_blocks)).answer))
