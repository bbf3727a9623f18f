use mathlib.Core.Path.{◌≡◌}
use lib.Dec.{leb}
use lib.IntN.{ℤ, nat_abs}
use Rattle.std.specs.List.{list_all}
use Rattle.std.specs.Slice.Iter.{chunks_rest}
use Rattle.facts.proofs.ranges.all_within.Given as goal

-- What is left is to be within, and no more.
abbrev pub invariant-loop-part : goal.invariant-loop-part
invariant-loop-part l =
    goal.iterator-loop-part.can_next l.part-iterator
    × goal.iterator-loop-part.is_finite l.part-iterator
    × (list_all (λ (number : ℤ). leb (nat_abs number) l.most) l.numbers ≡ list_all (λ (number : ℤ). leb (nat_abs number) l.most) (chunks_rest l.part-iterator))
