use Prim.Native.Nat.{ℕ, ◌+◌, ◌*◌}
use mathlib.Core.Bool.{Bool, ◌&&◌}
use mathlib.Core.Path.{sym, ◌∙◌}
use lib.Dec.{eqb}
use lib.ListN.{get_or}
use Rattle.lists.specs.Choice.{every}
use Rattle.lists.proofs.Asked.{all-part}
use Rattle.checker.proofs.Testing.{row-zeroed}
use Rattle.checker.proofs.fitting.row_zero.Goals as goal

pub returns-then-all_zero : goal.returns-then-all_zero
returns-then-all_zero c = let a = c.args in
    let zero : ℕ → Bool = λ (age : ℕ). eqb age 0 in
    let first = c.all_zero.ensures ∙ all-part zero a.must.now (a.n * a.blocks) a.blocks c.requires.0 in
    let second = c.all_zero-then-all_zero.ensures ∙ all-part zero a.may.now (a.n * a.blocks) a.blocks c.requires.1 in
    (λ i. sym c.if-all_zero.true i && c.all_zero-then-all_zero.result) ∙ (λ i. first i && second i) ∙ row-zeroed a.blocks a.must.now a.may.now a.n

pub returns-else-all_zero : goal.returns-else-all_zero
returns-else-all_zero c = let a = c.args in
    let zero : ℕ → Bool = λ (age : ℕ). eqb age 0 in
    let first = c.all_zero.ensures ∙ all-part zero a.must.now (a.n * a.blocks) a.blocks c.requires.0 in
    let other : Bool = every a.blocks (λ k. zero (get_or a.may.now (a.n * a.blocks + k) 0)) in
    c.if-all_zero.false ∙ (λ i. sym c.if-all_zero.false i && other) ∙ (λ i. first i && other) ∙ row-zeroed a.blocks a.must.now a.may.now a.n
