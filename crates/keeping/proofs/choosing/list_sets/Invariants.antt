use Prim.Native.Nat.{ℕ, ◌-◌, ◌≤◌, ◌<◌}
use mathlib.Core.Bool.{◌&&◌}
use mathlib.Core.Path.{◌≡◌}
use lib.Dec.{ltb, eqb}
use lib.ListN.{get_or, length}
use Rattle.bits.specs.Bits.{is_set}
use Rattle.keeping.specs.Choosing.{most_keys}
use Rattle.keeping.proofs.choosing.list_sets.Given as goal

abbrev pub invariant-loop-m : goal.invariant-loop-m
invariant-loop-m l = (l.m ≤ l.blocks) × ((length l.sets ≡ most_keys) × ((key column : ℕ) → key < most_keys → is_set (get_or l.sets key 0) column ≡ (ltb column l.m && eqb (get_or l.columns column 0) key)))

abbrev pub decreases-loop-m : goal.decreases-loop-m
decreases-loop-m l = l.blocks - l.m
