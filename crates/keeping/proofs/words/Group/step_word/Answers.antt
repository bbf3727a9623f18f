use borrow.Author.Tests.{eq-eqb, ne_eqb}
use mathlib.Core.Path.{ap, ◌∙◌}
use Rattle.keeping.specs.Words.{word_touched, word_after}
use Rattle.keeping.specs.Columns.{group_at}
use Rattle.keeping.proofs.words.Group.step_word.Goals as goal

pub returns-in_default : goal.returns-in_default
unfolding word_after
returns-in_default c = rw c.in_default.is

pub returns-then-lower-upper : goal.returns-then-lower-upper
unfolding word_after
returns-then-lower-upper c = let r = c.in-Some.reference in
    rw (c.in-Some.is, eq-eqb r.lower r.upper c.if-lower-upper.true) c.touch_word-once.ensures

pub returns : goal.returns
unfolding word_after
returns c = let a = c.args in
    let r = c.in-Some.reference in
    rw (c.in-Some.is, ne_eqb r.lower r.upper c.if-lower-upper.false)
    (c.touch_word.ensures ∙ ap (word_touched (group_at a.self.now) r.upper) c.touch_word-once.ensures)
