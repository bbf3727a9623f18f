use Prim.Native.Nat.{◌-◌, ◌≤◌}
use mathlib.Core.Path.{◌≡◌}
use Rattle.keeping.specs.Starting.{due_all}
use Rattle.keeping.proofs.putting.Work.mark_due.Given as goal

abbrev pub invariant-loop-n : goal.invariant-loop-n
invariant-loop-n l = (l.n ≤ l.nodes) × (l.self ≡ record l.initial.self { due = due_all l.plan l.group.chosen l.initial.self.marks l.n l.initial.self.due })

abbrev pub decreases-loop-n : goal.decreases-loop-n
decreases-loop-n l = l.nodes - l.n
