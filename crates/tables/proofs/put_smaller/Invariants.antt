use Prim.Native.Nat.{◌≤◌, ◌-◌, min}
use mathlib.Core.Path.{◌≡◌}
use lib.ListN.{length}
use Rattle.cache.specs.Ages.{age_of}
use Rattle.layout.specs.Joins.{RowJoined}
use Rattle.tables.specs.Inner.{falls}
use Rattle.tables.proofs.put_smaller.Given as goal

abbrev pub invariant-loop-j : goal.invariant-loop-j
invariant-loop-j l = (l.j ≤ l.blocks) × ((length l.buffer ≡ length l.initial.buffer) × RowJoined min falls l.base l.j (age_of l.ages) l.changed l.initial.buffer l.buffer l.any)

abbrev pub decreases-loop-j : goal.decreases-loop-j
decreases-loop-j l = l.blocks - l.j
