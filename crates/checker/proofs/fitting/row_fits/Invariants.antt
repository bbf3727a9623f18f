use Prim.Native.Nat.{◌≤◌, ◌-◌}
use mathlib.Core.Bool.{◌&&◌}
use mathlib.Core.Path.{◌≡◌}
use lib.Dec.{leb}
use Rattle.lists.specs.Choice.{every}
use Rattle.cache.specs.Ages.{age_of}
use Rattle.layout.specs.Rows.{row_at}
use Rattle.rows.specs.Rows.{columns_by}
use Rattle.checker.proofs.fitting.row_fits.Given as goal

abbrev pub invariant-loop-k : goal.invariant-loop-k
invariant-loop-k l = (l.k ≤ l.blocks) × (l.fit ≡ every l.k (λ column. leb (age_of (row_at l.blocks l.must l.n) column) ((columns_by l.columns l.blocks).must_limit column) && leb (age_of (row_at l.blocks l.may l.n) column) ((columns_by l.columns l.blocks).may_limit column)))

abbrev pub decreases-loop-k : goal.decreases-loop-k
decreases-loop-k l = l.blocks - l.k
