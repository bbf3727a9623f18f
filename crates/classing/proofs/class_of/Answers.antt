use borrow.Author.Tests.{lt-ltb, le-ltb, eq-eqb, ne_eqb}
use Rattle.classes.specs.Class.{class_by}
use Rattle.classing.proofs.class_of.Goals as goal

pub returns-then-must-limit : goal.returns-then-must-limit
unfolding class_by
returns-then-must-limit c = rw (lt-ltb _ _ c.if-must-limit.true)

pub returns-then-may-limit : goal.returns-then-may-limit
unfolding class_by
returns-then-may-limit c = rw (le-ltb _ _ c.if-must-limit.false, eq-eqb _ _ c.if-may-limit.true)

pub returns : goal.returns
unfolding class_by
returns c = rw (le-ltb _ _ c.if-must-limit.false, ne_eqb _ _ c.if-may-limit.false)
