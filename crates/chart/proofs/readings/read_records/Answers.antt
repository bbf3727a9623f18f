use mathlib.Core.Path.{refl, sym, ◌∙◌}
use Rattle.chart.specs.Chart.{records_in, first_broken}
use Rattle.chart.proofs.Reader.{none-below, records-end, records-keep}
use Rattle.chart.proofs.readings.read_records.Goals as goal

pub gather-requires-clause-all_end : goal.gather-requires-clause-all_end
gather-requires-clause-all_end c = let a = c.args in
    let records = records_in a.chart.now in
    records-end records a.header.nodes (none-below a.header.nodes (first_broken records a.header.nodes) (sym c.first_broken.ensures ∙ c.in_default.is))

pub returns-in-Ok : goal.returns-in-Ok
returns-in-Ok c = let a = c.args in
    let records = records_in a.chart.now in
    let g = c.gather in
    records-keep records a.header _ refl (none-below a.header.nodes (first_broken records a.header.nodes) (sym c.first_broken.ensures ∙ c.in_default.is)) g.result _ g.ensures _ c.in-Ok.is
