use Rattle.chart.proofs.Answers.{reader-accepts, reader-refuses}
use Rattle.drawing.proofs.Planning.{refused-draws}
use Rattle.drawing.proofs.draw.Goals as goal

pub returns-in_default-clause-draws : goal.returns-in_default-clause-draws
returns-in_default-clause-draws c = let bytes = c.args.chart.now in
    let read = c.read-read in refused-draws bytes _ _ _ (reader-refuses bytes read.result read.ensures.value _ c.in_default.is)

pub draw_chart-requires-clause-accepted_as : goal.draw_chart-requires-clause-accepted_as
draw_chart-requires-clause-accepted_as c = let read = c.read-read in reader-accepts c.args.chart.now read.result read.ensures.value _ c.in-Ok.is
