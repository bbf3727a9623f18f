use Prim.Native.Nat.{◌-◌, ◌≤◌}
use mathlib.Core.Path.{◌≡◌}
use lib.ListN.{length}
use Rattle.keeping.specs.Columns.{group_at}
use Rattle.keeping.specs.Telling.{told_all}
use Rattle.keeping.proofs.words.Group.tell_chosen.Given as goal

abbrev pub invariant-loop-n : goal.invariant-loop-n
invariant-loop-n l = (l.n ≤ l.nodes) × ((length l.stays ≡ length l.initial.stays) × (l.stays ≡ told_all (group_at l.self) l.plan l.words l.n l.initial.stays))

abbrev pub decreases-loop-n : goal.decreases-loop-n
decreases-loop-n l = l.nodes - l.n
