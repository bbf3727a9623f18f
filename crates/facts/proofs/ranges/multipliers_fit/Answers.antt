use borrow.Author.Rules.{rules}
use native.Mathlib.Omega.{arith}
use lib.IntN.{pos}
use lib.ListN.{get_or}
use mir.Syntax.{w64}
use mir.Val.{SFits}
use Rattle.std.proofs.lemmas.Int.{to_z-of_z}
use Rattle.facts.proofs.Within.{negative-unfit, over-unfit}
use Rattle.facts.proofs.ranges.multipliers_fit.Goals as goal

pub returns-then-parts-gt0 : goal.returns-then-parts-gt0
returns-then-parts-gt0 c = let l = c.loop-multiplier in
    let m = c.args.multipliers.now in
    let f : SFits w64 (get_or m l.multiplier-index (pos 0)) = search rules in
    let e = simp to_z-of_z at c.from-parts.ensures.below_is in
    negative-unfit m l.multiplier-index (omega arith) (omega arith)

pub returns-then-sum-parts : goal.returns-then-sum-parts
returns-then-sum-parts c = let l = c.loop-multiplier in
    let m = c.args.multipliers.now in
    let f : SFits w64 (get_or m l.multiplier-index (pos 0)) = search rules in
    let e = simp to_z-of_z at c.from-parts.ensures.above_is in
    over-unfit m l.multiplier-index (omega arith) (omega arith)
