use Prim.Native.Nat.{◌+◌}
use Rattle.std.proofs.lemmas.List.{take_min}
use Rattle.chart.specs.Geometry.{longest_chart}
use Rattle.report.specs.Report.{report}
use Rattle.report.specs.Ending.{refuses}
use Rattle.report.proofs.input.report.Goals as goal

pub returns-clause-value : goal.returns-clause-value
unfolding report refuses
returns-clause-value c = rw (c.min-taken.ensures, take_min (longest_chart + 1) c.args.input.now) at c.report_bytes.ensures.value
