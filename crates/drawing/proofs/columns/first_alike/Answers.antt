use Rattle.std.proofs.Common.{rules}
use Rattle.std.proofs.lemmas.Iterator.{YieldsList-from_slice}
use Rattle.std.proofs.lemmas.Iterator.Search.{position_from_yields_List}
use Rattle.std.proofs.lemmas.List.{get_or-take, length-take-le}
use Rattle.std.specs.Option.{unwrap_or}
use Prim.Native.Nat.{ℕ}
use mathlib.Core.Bool.{Bool}
use mathlib.Core.List.{List}
use mathlib.Core.Path.{◌≡◌, ap, ◌∙◌}
use native.Mathlib.Omega.{arith}
use borrow.Author.Tests.{tests}
use lib.Dec.{eqb}
use lib.ListN.{length, get_or, take}
use Rattle.lists.proofs.Asked.{position-listed}
use Rattle.lists.proofs.Choice.{first-same}
use Rattle.drawing.proofs.columns.first_alike.Goals as goal

pub returns : goal.returns
returns c = let a = c.args in
    let alike : ℕ → Bool = λ (earlier : ℕ). eqb earlier (get_or a.sets.now a.column 0) in
    let before : List ℕ = take a.column a.sets.now in
    let size : length before ≡ a.column = length-take-le a.column a.sets.now (omega arith) in
    let found = position_from_yields_List alike _ _ c.position.result c.position.ensures.ran (YieldsList-from_slice before c.iter.ensures.rest) (λ x b q k. search (rules, tests)) in
    c.unwrap_or.ensures
    ∙ ap (λ o. unwrap_or o a.column) found
    ∙ position-listed alike before 0 a.column size
    ∙ first-same a.column _ _ (λ i h. ap alike (get_or-take a.column a.sets.now i 0 h))
