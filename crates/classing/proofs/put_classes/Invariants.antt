use Prim.Native.Nat.{ℕ, ◌*◌, ◌/◌, ◌%◌, ◌≤◌, ◌-◌}
use mathlib.Core.List.{List}
use mathlib.Core.Path.{◌≡◌}
use lib.ListN.{length}
use Rattle.lists.specs.Loops.{patch}
use Rattle.chart.specs.Geometry.{most_touches}
use Rattle.flow.specs.Flow.{cell_at}
use Rattle.plan.specs.Listed.{plan_in}
use Rattle.tables.specs.Lent.{Lent, table_of}
use Rattle.tables.specs.AsTable.{lent_as}
use Rattle.classing.specs.Both.{node_age_class}
use Rattle.classing.proofs.put_classes.Given as goal

-- Class k of a node by its ages alone, and those of all nodes in one list.
abbrev pub class_of : List ℕ → List ℕ → Lent → ℕ → ℕ → ℕ
class_of columns plan lent n k = node_age_class (plan_in columns plan) n k (cell_at (table_of (plan_in columns plan) lent) n)

abbrev pub class_at : List ℕ → List ℕ → Lent → ℕ → ℕ
class_at columns plan lent i = class_of columns plan lent (i / most_touches) (i % most_touches)

abbrev pub invariant-loop-n : goal.invariant-loop-n
invariant-loop-n l = (l.n ≤ l.nodes)
    × ((length l.classes ≡ length l.initial.classes)
    × (l.classes ≡ patch l.initial.classes 0 (most_touches * l.n) (class_at l.table.plan.columns.now l.table.plan.numbers.now (lent_as l.table.table))))

abbrev pub decreases-loop-n : goal.decreases-loop-n
decreases-loop-n l = l.nodes - l.n
