use Prim.Native.Nat.{ℕ, ◌≤◌}
use mathlib.Core.Bool.{Bool, true}
use mathlib.Core.List.{List}
use mathlib.Core.Path.{◌≡◌}
use lib.Dec.{eqb}
use lib.IntN.{ℤ, pos}
use lib.ListN.{get_or}
use Rattle.lists.specs.Choice.{every}
use Rattle.lists.specs.Lists.{sum_of}
use Rattle.facts.specs.Parts.{above, below}
use Rattle.facts.specs.Certificate.{most_multipliers}
use Rattle.facts.proofs.ranges.multipliers_fit.Given as goal

abbrev pub plain : List ℤ → ℕ → Bool
plain multipliers k = eqb (below (get_or multipliers k (pos 0))) 0

abbrev pub weight : List ℤ → ℕ → ℕ
weight multipliers k = above (get_or multipliers k (pos 0))

abbrev pub invariant-loop-multiplier : goal.invariant-loop-multiplier
invariant-loop-multiplier l = record {
  none : every l.multiplier-index (plain l.multipliers) ≡ true;
  added : l.sum ≡ sum_of l.multiplier-index (weight l.multipliers);
  most : l.sum ≤ most_multipliers;
}
