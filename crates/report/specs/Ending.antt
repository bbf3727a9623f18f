-- How the program ends: rules 13.3 and 14.3, as the number that its exit status is to be. Whether all was written is given; how the program tells the number
-- no definition says (docs/DECISIONS.md, "Report and program").
use Rattle.std.specs.Prelude.{ℕ, Bool, cond, List, Result, is_err}
use Rattle.chart.specs.Geometry.{most_nodes, most_blocks, all_passes}
use Rattle.analysis.specs.Analysis.{analysed}
use Rattle.report.specs.Report.{taken, zero_buffers}
use Rattle.analysis.specs.declared.Unanalysed.{Unanalysed}
use Rattle.analysis.specs.declared.SettledAfter.{SettledAfter}

-- Rules 13.3 and 14.3: whether an answer is a refusal, so that its report is one line.
abbrev pub refused_by : Result SettledAfter Unanalysed → Bool
refused_by answer = is_err answer

-- Rule 13.3: whether an input is refused.
unfoldable pub refuses : List ℕ → Bool
refuses input =
    refused_by (analysed (taken input) all_passes (zero_buffers most_nodes most_blocks)).answer

-- Rule 13.3, by whether there was a refusal and whether all was written.
abbrev pub ending_of : Bool → Bool → ℕ
ending_of refused whole = cond whole (cond refused 1 0) 2
