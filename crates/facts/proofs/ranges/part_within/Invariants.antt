use Prim.Native.Nat.{◌≤◌}
use mathlib.Core.Path.{◌≡◌}
use lib.Dec.{leb}
use lib.IntN.{ℤ, nat_abs}
use lib.ListN.{length, take}
use Rattle.std.specs.List.{list_all}
use Rattle.facts.proofs.ranges.part_within.Given as goal

abbrev pub invariant-loop-number : goal.invariant-loop-number
invariant-loop-number l = (l.number-index ≤ length l.part) × (l.fit ≡ list_all (λ (number : ℤ). leb (nat_abs number) l.most) (take l.number-index l.part))
