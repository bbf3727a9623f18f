use borrow.Author.Tests.{eq-eqb, ne_eqb}
use Rattle.tables.specs.Inner.{taken_into, joined_into}
use Rattle.tables.proofs.meet_row.Goals as goal

pub returns-then-marks-n-eq0 : goal.returns-then-marks-n-eq0
unfolding taken_into
returns-then-marks-n-eq0 c = rw (eq-eqb _ 0 c.if-marks-n-eq0.true, c.put_ages.ensures, c.put_ages-then-marks-n-eq0.ensures)

pub returns : goal.returns
unfolding joined_into
returns c = rw (ne_eqb _ 0 c.if-marks-n-eq0.false, c.put_larger-grown.ensures.row, c.put_smaller.ensures.row, c.put_smaller.ensures.flag_is, c.put_larger-grown.ensures.flag_is)
