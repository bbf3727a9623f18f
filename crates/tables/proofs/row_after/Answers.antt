use borrow.Author.Tests.{ne_eqb}
use Prim.Native.Nat.{◌*◌}
use Rattle.tables.proofs.Agreeing.{begun-agrees, twice-agrees}
use Rattle.tables.proofs.row_after.Goals as goal

pub returns-in_default : goal.returns-in_default
returns-in_default c = let a = c.args in
    rw c.in_default.is
    (begun-agrees a.blocks (a.n * a.blocks) a.must.now a.may.now _ _ c.take_ages.ensures c.take_ages-in_default.ensures)

pub returns-then-lower-upper : goal.returns-then-lower-upper
returns-then-lower-upper c = let a = c.args in
    let both = rw c.in-Some.is at c.requires.record_in in
    let one = c.take_ages-then-lower-upper in
    let other = c.take_ages-then-lower-upper-2 in
    rw (c.in-Some.is, ne_eqb _ _ c.if-lower-upper.true)
    (twice-agrees a.blocks a.columns.now c.in-Some.reference.upper both.1 c.requires.loads.few _ _ one.new.taken other.new.taken _ _
    c.touch_row.ensures one.ensures other.ensures c.touch_row-then-lower-upper.ensures)
