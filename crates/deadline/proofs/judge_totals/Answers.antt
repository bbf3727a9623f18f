use mathlib.Core.Path.{sym, ◌∙◌}
use Rattle.deadline.specs.Deadline.{judged_by}
use Rattle.deadline.proofs.judge_totals.Goals as goal

pub returns-then-is_impossible : goal.returns-then-is_impossible
unfolding judged_by
returns-then-is_impossible c = rw (sym c.is_impossible.ensures ∙ c.if-is_impossible.true)

pub returns-then-is_met : goal.returns-then-is_met
unfolding judged_by
returns-then-is_met c = rw (sym c.is_impossible.ensures ∙ c.if-is_impossible.false, ← c.figure-least.ensures, ← c.figure-most.ensures, sym c.is_met.ensures ∙ c.if-is_met.true)

pub returns-else-is_met : goal.returns-else-is_met
unfolding judged_by
returns-else-is_met c = rw (sym c.is_impossible.ensures ∙ c.if-is_impossible.false, ← c.figure-least.ensures, ← c.figure-most.ensures, sym c.is_met.ensures ∙ c.if-is_met.false)
