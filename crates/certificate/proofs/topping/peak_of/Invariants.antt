use Prim.Native.Nat.{◌-◌, ◌≤◌, ◌<◌}
use mathlib.Core.Path.{◌≡◌}
use Rattle.certificate.specs.Inner.{peak_by}
use Rattle.certificate.proofs.topping.peak_of.Given as goal

abbrev pub invariant-loop-n : goal.invariant-loop-n
invariant-loop-n l = (l.n ≤ l.nodes) × ((l.peak ≡ peak_by l.marks l.potentials l.entry l.n) × (l.peak < l.nodes))

abbrev pub decreases-loop-n : goal.decreases-loop-n
decreases-loop-n l = l.nodes - l.n
