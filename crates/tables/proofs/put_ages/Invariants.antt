use Prim.Native.Nat.{◌≤◌, ◌-◌}
use mathlib.Core.Path.{◌≡◌}
use lib.ListN.{length}
use Rattle.cache.specs.Ages.{age_of}
use Rattle.lists.specs.Loops.{patch}
use Rattle.tables.proofs.put_ages.Given as goal

abbrev pub invariant-loop-j : goal.invariant-loop-j
invariant-loop-j l = (l.j ≤ l.blocks) × ((length l.buffer ≡ length l.initial.buffer) × (l.buffer ≡ patch l.initial.buffer l.base l.j (age_of l.ages)))

abbrev pub decreases-loop-j : goal.decreases-loop-j
decreases-loop-j l = l.blocks - l.j
