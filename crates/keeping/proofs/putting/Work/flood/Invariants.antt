use Rattle.plan.specs.Listed.{nodes_in}
use Rattle.keeping.specs.Work.{span_to, work_at}
use Rattle.keeping.specs.Flood.{AllStand}
use Rattle.keeping.proofs.Sweeping.{left_over}
use Rattle.keeping.proofs.putting.Work.flood.Given as goal

abbrev pub invariant-loop-low : goal.invariant-loop-low
invariant-loop-low l = AllStand l.group.columns.now l.plan l.group.chosen l.low (work_at l.self (span_to l.high))

abbrev pub decreases-loop-low : goal.decreases-loop-low
decreases-loop-low l = left_over (nodes_in l.plan) l.low l.high (work_at l.self (span_to l.high))
