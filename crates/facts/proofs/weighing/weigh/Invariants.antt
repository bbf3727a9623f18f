use Prim.Native.Nat.{ℕ, ◌+◌, ◌*◌}
use mathlib.Core.List.{List}
use mathlib.Core.Path.{◌≡◌}
use lib.IntN.{ℤ, pos}
use lib.ListN.{get_or}
use Rattle.lists.specs.Lists.{sum_of}
use Rattle.facts.specs.Parts.{above, below}
use Rattle.facts.proofs.weighing.weigh.Given as goal

abbrev pub terms : (ℤ → ℕ) → List ℤ → List ℤ → ℕ → ℕ → ℕ → ℕ
terms part multipliers numbers stride start k = above (get_or multipliers k (pos 0)) * part (get_or numbers (k * stride + start) (pos 0))

abbrev pub invariant-loop-f : goal.invariant-loop-f
invariant-loop-f l = record {
  above : l.sum.above ≡ sum_of l.f (terms above l.multipliers l.numbers l.stride l.start);
  below : l.sum.below ≡ sum_of l.f (terms below l.multipliers l.numbers l.stride l.start);
}
