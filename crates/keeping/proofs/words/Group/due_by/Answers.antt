use borrow.Author.Tests.{eq-eqb, ne_eqb}
use mathlib.Core.Bool.{Bool, true, false, not, ◌&&◌}
use mathlib.Core.Path.{◌≡◌, refl}
use lib.Dec.{eqb}
use Rattle.keeping.specs.Starting.{due_by}
use Rattle.keeping.proofs.words.Group.due_by.Goals as goal

none : (b : Bool) → false ≡ (b && false)
none true = refl
none false = refl

pub returns-in_default : goal.returns-in_default
unfolding due_by
returns-in_default c = rw c.in_default.is (none (not (eqb c.args.mark 0)))

pub returns-then-mark-eq0 : goal.returns-then-mark-eq0
unfolding due_by
returns-then-mark-eq0 c = rw (eq-eqb c.args.mark 0 c.if-mark-eq0.true)

pub returns : goal.returns
unfolding due_by
returns c = rw (c.in-Some.is, ne_eqb c.args.mark 0 c.if-mark-eq0.false, c.from.ensures, c.from-2.ensures)
