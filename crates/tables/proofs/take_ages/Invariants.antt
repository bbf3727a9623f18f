use Prim.Native.Nat.{◌≤◌, ◌-◌}
use mathlib.Core.Path.{◌≡◌}
use lib.ListN.{length}
use Rattle.lists.specs.Loops.{patch}
use Rattle.rows.specs.Rows.{age_from}
use Rattle.tables.proofs.take_ages.Given as goal

abbrev pub invariant-loop-j : goal.invariant-loop-j
invariant-loop-j l = (l.j ≤ l.blocks) × ((length l.taken ≡ length l.initial.taken) × (l.taken ≡ patch l.initial.taken 0 l.j (age_from l.base l.ages)))

abbrev pub decreases-loop-j : goal.decreases-loop-j
decreases-loop-j l = l.blocks - l.j
