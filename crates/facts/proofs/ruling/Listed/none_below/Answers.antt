use Rattle.std.proofs.Common.{rules}
use Rattle.std.proofs.lemmas.Iterator.{YieldsList-from_slice}
use Rattle.std.proofs.lemmas.Iterator.Search.{all_from_yields_List}
use Rattle.std.proofs.lemmas.List.{get_or-take, get_or-drop, length-take-le, length-drop}
use Rattle.std.proofs.lemmas.Grind.{common_steps}
use Prim.Native.Nat.{ℕ, ◌+◌, ◌*◌, ◌-◌, ◌≤◌}
use mathlib.Core.List.{List}
use mathlib.Core.Path.{◌≡◌, ap, ◌∙◌}
use native.Mathlib.Omega.{arith}
use borrow.Author.Tests.{tests}
use lib.Dec.{eqb}
use lib.IntN.{ℤ, pos}
use lib.ListN.{length, get_or, take, drop}
use lib.Signed.{le_z}
use Rattle.lists.specs.Choice.{every}
use Rattle.lists.proofs.Choice.{every-same}
use Rattle.facts.specs.Parts.{below}
use Rattle.lists.proofs.Asked.{all_listed}
use Rattle.facts.proofs.Asked.{not-below}
use Rattle.facts.proofs.ruling.Listed.none_below.Goals as goal

pub returns : goal.returns
returns c = let a = c.args.self.now in
    let start : ℕ = c.args.f * a.nodes in
    let inside : start + a.nodes ≤ length a.coefficients.now = grind (arith, common_steps) in
    let own : List ℤ = take (start + a.nodes - start) (drop start a.coefficients.now) in
    let size : length own ≡ a.nodes = length-take-le (start + a.nodes - start) (drop start a.coefficients.now) (omega (arith, length-drop start a.coefficients.now)) ∙ omega arith in
    all_from_yields_List (λ (z : ℤ). le_z (pos 0) z) _ _ c.all.result c.all.ensures.ran (YieldsList-from_slice own c.iter.ensures.rest) (λ x b q k. search (rules, tests))
    ∙ all_listed (λ (z : ℤ). le_z (pos 0) z) own (pos 0)
    ∙ ap (λ (k : ℕ). every k (λ i. le_z (pos 0) (get_or own i (pos 0)))) size
    ∙ every-same a.nodes _ _ (λ i h. not-below (get_or own i (pos 0)) ∙ ap (λ (z : ℤ). eqb (below z) 0) (get_or-take (start + a.nodes - start) (drop start a.coefficients.now) i (pos 0) (omega arith) ∙ get_or-drop start a.coefficients.now i (pos 0)))
