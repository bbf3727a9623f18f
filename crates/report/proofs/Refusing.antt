-- The report and the ending of an input agree.
use Rattle.std.specs.Prelude.{Result, Ok, Err}
use Prim.Native.Nat.{ℕ}
use mathlib.Core.Bool.{cond}
use mathlib.Core.List.{List}
use mathlib.Core.Path.{◌≡◌, refl}
use lib.ListN.{get_or}
use Rattle.chart.specs.Header.{header_in}
use Rattle.chart.specs.Geometry.{most_nodes, most_blocks, all_passes}
use Rattle.analysis.specs.Analysis.{analysed}
use Rattle.report.specs.Report.{taken, zero_buffers, report_of, report}
use Rattle.report.specs.Ending.{refused_by, refuses}
use Rattle.analysis.specs.declared.Unanalysed.{Unanalysed}
use Rattle.analysis.specs.declared.SettledAfter.{SettledAfter}

-- The first letter: the r of "refused" or the n of "nodes".
first-told : (nodes : ℕ) (classes : List ℕ) (answer : Result SettledAfter Unanalysed) → get_or (report_of nodes classes answer) 0 0 ≡ cond (refused_by answer) 114 110
first-told nodes classes (Ok done) = refl
first-told nodes classes (Err error) = refl

pub refusal_told : (input : List ℕ) → get_or (report input) 0 0 ≡ cond (refuses input) 114 110
unfolding report refuses
refusal_told input =
    let left = analysed (taken input) all_passes (zero_buffers most_nodes most_blocks) in
    first-told (header_in (taken input)).nodes left.buffers.classes left.answer
