use borrow.Author.Rules.{rules}
use Prim.Native.Nat.{ℕ, ◌^◌}
use mathlib.Core.Bool.{cond}
use mathlib.Core.Path.{ap, ◌∙◌}
use lib.Dec.{eqb}
use Rattle.bits.specs.Bits.{without}
use Rattle.keeping.proofs.Chosen.{taken-turn}
use Rattle.keeping.proofs.words.Group.left_after.Goals as goal

pub loop-m-preserved : goal.loop-m-preserved
loop-m-preserved c = let a = c.args in
    let l = c.loop-m in
    (search rules, taken-turn a.self.now.chosen a.blocks a.left l.rest l.m c.left_without-rest.result (c.left_without-rest.ensures ∙ ap (λ (k : ℕ). cond (eqb k l.m) (without l.rest (2 ^ l.m)) l.rest) c.from.ensures) l.invariant.1)
