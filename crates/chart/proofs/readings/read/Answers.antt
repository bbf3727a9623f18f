use mathlib.Core.Path.{sym, ap, ◌∙◌, ◌≡◌}
use Rattle.chart.specs.declared.readings.Reading.{Reading}
use Rattle.chart.specs.Reading.{ReadSaid, reading, verdict_says}
use Rattle.chart.proofs.Reader.{read_length, read-accepts, read-refuses}
use Rattle.chart.proofs.readings.read.Goals as goal

-- What a reading says.
abbrev reading_says : Reading → ReadSaid
reading_says answer = verdict_says answer.verdict

pub read_records-requires : goal.read_records-requires
read_records-requires c = read_length c.args.chart.now _ (sym c.read_header-header.ensures.value ∙ c.in-Ok.is)

pub returns-in-Ok : goal.returns-in-Ok
returns-in-Ok c =
    let e : c.read_records.result ≡ reading c.args.chart.now =
    rw (read-accepts c.args.chart.now _ (sym c.read_header-header.ensures.value ∙ c.in-Ok.is)) c.read_records.ensures
    in
    record { value = e; verdict_value = ap reading_says e }

pub returns-in-Err : goal.returns-in-Err
returns-in-Err c =
    let e : c.refuse.result ≡ reading c.args.chart.now =
    rw (read-refuses c.args.chart.now _ (sym c.read_header-header.ensures.value ∙ c.in-Err.is)) c.refuse.ensures
    in
    record { value = e; verdict_value = ap reading_says e }
