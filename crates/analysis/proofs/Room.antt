-- How much of the buffers is used, and buffers that are not short: the blocks', the table's and the classes'.
use Prim.Native.Nat.{ℕ, ◌*◌, ◌≤◌}
use mathlib.Core.Bool.{false}
use mathlib.Core.Path.{◌≡◌}
use borrow.Author.Tests.{ltb-false, le-ltb}
use lib.ListN.{length}
use Rattle.lists.proofs.Choice.{or-false, false-or}
use Rattle.ages.specs.Plan.{Plan}
use Rattle.tables.specs.Lent.{table_short}
use Rattle.tables.specs.Inner.{Roomy}
use Rattle.tables.proofs.Laid.{long-enough}
use Rattle.analysis.specs.Analysis.{Buffers, table_in, classes_used, buffers_short}

-- As many ages as counts tell that were read.
pub used-is : {nodes count n b : ℕ} → nodes ≡ n → count ≡ b → nodes * count ≡ n * b
used-is e d = λ i. e i * d i

module _ (plan : Plan) (lent : Buffers) where
  pub room-parts : buffers_short plan lent ≡ false
      → (plan.blocks ≤ length lent.blocks) × ((table_short plan (table_in lent) ≡ false) × (classes_used plan ≤ length lent.classes))
  room-parts e =
      let blocks = or-false _ _ e in
      let rest = or-false _ _ blocks.1 in
      (ltb-false _ _ blocks.0, (rest.0, ltb-false _ _ rest.1))

  pub parts-room : plan.blocks ≤ length lent.blocks → table_short plan (table_in lent) ≡ false → classes_used plan ≤ length lent.classes
      → buffers_short plan lent ≡ false
  parts-room blocks table classes = false-or _ _ (le-ltb _ _ blocks) (false-or _ _ table (le-ltb _ _ classes))

  pub table-room : buffers_short plan lent ≡ false → Roomy plan.nodes plan.blocks lent.must lent.may lent.marks
  table-room e =
      let long = long-enough plan (table_in lent) (room-parts e).1.0 in
      record { must_room = long.0; may_room = long.1.0; marks_room = long.1.1 }
