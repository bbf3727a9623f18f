use Rattle.std.proofs.Common.{rules}
use Rattle.std.proofs.lemmas.Iterator.{YieldsList-from_range}
use Rattle.std.proofs.lemmas.Iterator.Search.{all_from_yields_List}
use Prim.Native.Nat.{ℕ}
use mathlib.Core.Bool.{Bool}
use mathlib.Core.Path.{ap, ◌∙◌, refl}
use native.Mathlib.Omega.{arith}
use borrow.Author.Tests.{tests}
use Rattle.lists.specs.Choice.{every}
use Rattle.lists.proofs.Asked.{all-range}
use Rattle.plan.specs.AsPlan.{drawn_as}
use Rattle.tables.specs.AsTable.{lent_as}
use Rattle.checker.specs.Checker.{node_passing}
use Rattle.checker.proofs.passing.nodes_passing.Goals as goal

pub returns : goal.returns
returns c = let table = c.args.table in
    let test : ℕ → Bool = node_passing (drawn_as table.plan) (lent_as table.table) in
    all_from_yields_List test _ _ c.all.result c.all.ensures.ran (YieldsList-from_range 0 c.nodes.result c.nodes.result refl (omega arith)) (λ x b q k. search (rules, tests))
    ∙ all-range test c.nodes.result
    ∙ ap (λ (n : ℕ). every n test) c.nodes.ensures
