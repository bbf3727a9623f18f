use Prim.Native.Nat.{◌≤◌, ◌-◌}
use mathlib.Core.Path.{◌≡◌}
use lib.ListN.{length}
use Rattle.drawing.specs.Columns.{ColumnsDrawn}
use Rattle.drawing.proofs.columns.put_columns.Given as goal

abbrev pub invariant-loop-k : goal.invariant-loop-k
invariant-loop-k l = (l.k ≤ l.count) × ((length l.columns ≡ length l.initial.columns) × ColumnsDrawn l.sets l.limit l.k l.columns)

abbrev pub decreases-loop-k : goal.decreases-loop-k
decreases-loop-k l = l.count - l.k
