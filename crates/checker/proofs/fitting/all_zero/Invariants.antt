use Prim.Native.Nat.{ℕ, ◌≤◌}
use mathlib.Core.Path.{◌≡◌}
use lib.Dec.{eqb}
use lib.ListN.{length, take}
use Rattle.std.specs.List.{list_all}
use Rattle.checker.proofs.fitting.all_zero.Given as goal

abbrev pub invariant-loop-age : goal.invariant-loop-age
invariant-loop-age l = (l.age-index ≤ length l.ages) × (l.zero ≡ list_all (λ (age : ℕ). eqb age 0) (take l.age-index l.ages))
