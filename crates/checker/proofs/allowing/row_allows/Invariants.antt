use Prim.Native.Nat.{◌≤◌, ◌-◌}
use mathlib.Core.Bool.{◌&&◌}
use mathlib.Core.Path.{◌≡◌}
use lib.Dec.{leb}
use Rattle.lists.specs.Choice.{every}
use Rattle.cache.specs.Ages.{age_of}
use Rattle.layout.specs.Rows.{row_at}
use Rattle.checker.proofs.allowing.row_allows.Given as goal

abbrev pub invariant-loop-k : goal.invariant-loop-k
invariant-loop-k l = (l.k ≤ l.blocks) × (l.covers ≡ every l.k (λ column. leb (age_of l.row_must column) (age_of (row_at l.blocks l.must l.t) column) && leb (age_of (row_at l.blocks l.may l.t) column) (age_of l.row_may column)))

abbrev pub decreases-loop-k : goal.decreases-loop-k
decreases-loop-k l = l.blocks - l.k
