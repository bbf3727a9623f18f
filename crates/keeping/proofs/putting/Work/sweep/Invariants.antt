use Prim.Native.Nat.{◌-◌}
use Rattle.plan.specs.Listed.{nodes_in, blocks_in}
use Rattle.keeping.specs.Words.{EachChosen}
use Rattle.keeping.specs.Work.{span_to, work_at}
use Rattle.keeping.proofs.Sweeping.{Sweeping}
use Rattle.keeping.proofs.putting.Work.sweep.Given as goal

abbrev pub invariant-loop-n : goal.invariant-loop-n
invariant-loop-n l = EachChosen l.group.chosen (blocks_in l.plan) (λ block. Sweeping l.group.columns.now l.plan block (work_at l.initial.self (span_to l.to)) l.n (work_at l.self l.span))

abbrev pub decreases-loop-n : goal.decreases-loop-n
decreases-loop-n l = nodes_in l.plan - l.n
