use mathlib.Core.Path.{ap, sym, subst, ◌∙◌}
use Prim.Native.Nat.{ℕ, ◌*◌}
use Rattle.chart.specs.Geometry.{most_touches}
use Rattle.plan.specs.Listed.{plan_in}
use Rattle.tables.specs.Lent.{table_of}
use Rattle.tables.specs.AsTable.{lent_as}
use Rattle.keeping.proofs.Told.{records-read}
use Rattle.classing.specs.Both.{AllWanted}
use Rattle.classing.proofs.Wanted.{gathered}
use Rattle.classing.proofs.Refined.{all-refined, none-refined}
use Rattle.classing.proofs.write_classes.Goals as goal

pub wanted_columns-wanted-requires-clause-records_read : goal.wanted_columns-wanted-requires-clause-records_read
wanted_columns-wanted-requires-clause-records_read c = records-read c.args.table.plan.columns.now c.args.table.plan.numbers.now c.args.table.plan.drawn

pub returns-then-wanted-eq0 : goal.returns-then-wanted-eq0
returns-then-wanted-eq0 c = let a = c.args in
    let held = plan_in a.table.plan.columns.now a.table.plan.numbers.now in
    let table = table_of held (lent_as a.table.table) in
    let wanted = c.wanted_columns-wanted in
    let all = subst (AllWanted held table) (sym wanted.ensures) (gathered a.table.plan.columns.now a.table.plan.numbers.now table a.classes.now _ c.requires c.put_classes.ensures) in
    c.put_classes.ensures ∙ none-refined held table wanted.result all c.if-wanted-eq0.true a.classes.now

pub returns : goal.returns
returns c = let a = c.args in
    let held = plan_in a.table.plan.columns.now a.table.plan.numbers.now in
    let table = table_of held (lent_as a.table.table) in
    let wanted = c.wanted_columns-wanted in
    let all = subst (AllWanted held table) (sym wanted.ensures) (gathered a.table.plan.columns.now a.table.plan.numbers.now table a.classes.now _ c.requires c.put_classes.ensures) in
    c.refine_all.ensures
    ∙ all-refined held table wanted.result all _ c.write_stays.ensures a.classes.now _ (most_touches * c.nodes.result) (ap (λ (n : ℕ). most_touches * n) c.nodes.ensures) c.requires c.put_classes.ensures
