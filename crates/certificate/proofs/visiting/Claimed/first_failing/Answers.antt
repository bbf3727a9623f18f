use borrow.Author.Rules.{rules}
use mathlib.Core.Bool.{not}
use borrow.Author.Tests.{lt-ltb}
use mathlib.Core.Path.{sym, ap, ◌∙◌}
use Rattle.lists.proofs.Choice.{first_passes, first_found}
use Rattle.certificate.proofs.visiting.Claimed.first_failing.Invariants.{fails}
use Rattle.certificate.proofs.visiting.Claimed.first_failing.Goals as goal

pub returns-then-not-holds : goal.returns-then-not-holds
returns-then-not-holds c = let a = c.args in
    let l = c.loop-n in
    let first_one = first_found a.self.now.nodes l.n (fails a.self.now a.plan.now a.marks.now) c.loop-n-test.true (sym (ap not c.node_holds-holds.ensures) ∙ (ap not c.if-not-holds.true)) l.invariant.1 in
    rw (first_one, lt-ltb _ _ c.loop-n-test.true)

pub loop-n-preserved : goal.loop-n-preserved
loop-n-preserved c = let a = c.args in
    let l = c.loop-n in
    (search rules, first_passes a.self.now.nodes l.n (fails a.self.now a.plan.now a.marks.now) c.loop-n-test.true (sym (ap not c.node_holds-holds.ensures) ∙ (ap not c.if-not-holds.false)) l.invariant.1)
