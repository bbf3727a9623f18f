use Prim.Native.Nat.{◌*◌, ◌≤◌}
use mathlib.Core.Path.{◌≡◌}
use lib.ListN.{get_or}
use Rattle.lists.specs.Lists.{sum_of}
use Rattle.totals.proofs.charging.sum_marks.Given as goal

abbrev pub invariant-loop-mark : goal.invariant-loop-mark
invariant-loop-mark l = (l.mark-index ≤ l.count) × ((l.sum ≤ l.mark-index * 255) × (l.sum ≡ sum_of l.mark-index (λ k. get_or l.charged k 0)))
