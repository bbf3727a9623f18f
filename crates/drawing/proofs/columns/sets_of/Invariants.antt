use mathlib.Core.Path.{◌≡◌}
use lib.ListN.{get_or}
use Rattle.lists.specs.Loops.{patch}
use Rattle.chart.specs.Geometry.{set_of}
use Rattle.drawing.proofs.columns.sets_of.Given as goal

abbrev pub invariant-loop-k : goal.invariant-loop-k
invariant-loop-k l = l.set-items ≡ patch l.initial.set-items 0 l.k (λ j. set_of l.geometry (get_or l.blocks j 0))
