use borrow.Author.Rules.{rules}
use native.Mathlib.Omega.{arith}
use Rattle.facts.specs.Parts.{above, below}
use Rattle.facts.specs.Certificate.{most_coefficient}
use Rattle.facts.proofs.Within.{above_within, below-within, weighed-most, weighed-next}
use Rattle.facts.proofs.weighing.weigh.Goals as goal

pub overflow_mul-sum : goal.overflow_mul-sum
overflow_mul-sum c = let a = c.args in
    omega (arith, weighed-next a.multipliers.now a.numbers.now a.stride a.start c.requires above (above_within most_coefficient a.numbers.now c.requires.numbers_fit) c.loop-f.f _ _ (omega arith) (search rules) (search rules) c.from-weight.ensures.above_is c.from-number.ensures.above_is)

pub overflow_add-sum : goal.overflow_add-sum
overflow_add-sum c = let a = c.args in
    omega (arith, weighed-next a.multipliers.now a.numbers.now a.stride a.start c.requires above (above_within most_coefficient a.numbers.now c.requires.numbers_fit) c.loop-f.f _ _ (omega arith) (search rules) (search rules) c.from-weight.ensures.above_is c.from-number.ensures.above_is)

pub overflow_mul-sum-in-loop-f : goal.overflow_mul-sum-in-loop-f
overflow_mul-sum-in-loop-f c = let a = c.args in
    omega (arith, weighed-next a.multipliers.now a.numbers.now a.stride a.start c.requires below (below-within most_coefficient a.numbers.now c.requires.numbers_fit) c.loop-f.f _ _ (omega arith) (search rules) (search rules) c.from-weight.ensures.above_is c.from-number.ensures.below_is)

pub overflow_add-sum-in-loop-f : goal.overflow_add-sum-in-loop-f
overflow_add-sum-in-loop-f c = let a = c.args in
    omega (arith, weighed-next a.multipliers.now a.numbers.now a.stride a.start c.requires below (below-within most_coefficient a.numbers.now c.requires.numbers_fit) c.loop-f.f _ _ (omega arith) (search rules) (search rules) c.from-weight.ensures.above_is c.from-number.ensures.below_is)

pub returns-clause-small_parts : goal.returns-clause-small_parts
returns-clause-small_parts c = let a = c.args in record {
  above_most = omega (arith, weighed-most a.multipliers.now a.numbers.now a.stride a.start c.requires above (above_within most_coefficient a.numbers.now c.requires.numbers_fit) c.loop-f.f (omega arith));
  below-most = omega (arith, weighed-most a.multipliers.now a.numbers.now a.stride a.start c.requires below (below-within most_coefficient a.numbers.now c.requires.numbers_fit) c.loop-f.f (omega arith));
}
