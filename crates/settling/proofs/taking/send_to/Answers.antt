use mathlib.Core.Bool.{true}
use Rattle.settling.specs.Inner.{sent_to}
use Rattle.settling.proofs.taking.send_to.Goals as goal

pub returns-then-met : goal.returns-then-met
unfolding sent_to
returns-then-met c = let met = c.meet_row-met in
    rw (← met.ensures, c.if-met.true) (λ i. record { lent = record { must = met.new.must; may = met.new.may; marks = met.new.marks }; changed = true; due = c.put.ensures i })

pub returns : goal.returns
unfolding sent_to
returns c = rw (← c.meet_row-met.ensures, c.if-met.false)
