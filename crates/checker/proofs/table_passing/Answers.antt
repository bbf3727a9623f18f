use mathlib.Core.Bool.{◌&&◌}
use mathlib.Core.Path.{◌∙◌}
use Rattle.tables.specs.AsTable.{lent_as}
use Rattle.checker.specs.Checker.{passing}
use Rattle.checker.proofs.Testing.{entry-begins}
use Rattle.checker.proofs.table_passing.Goals as goal

pub returns : goal.returns
unfolding passing
returns c =
    let a = c.args in
    let begins = c.row_allows-begins.ensures ∙ entry-begins a.table.plan.drawn (lent_as a.table.table) c.blocks-blocks.ensures c.entry-entry.ensures c.starts_empty.ensures c.start-start.ensures in
    λ i. begins i && c.nodes_passing.ensures i
