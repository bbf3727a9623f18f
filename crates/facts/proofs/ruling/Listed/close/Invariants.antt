use mathlib.Core.Path.{◌≡◌}
use mathlib.Core.Bool.{cond}
use lib.Dec.{ltb}
use lib.IntN.{pos}
use lib.ListN.{get_or}
use Rattle.lists.specs.Loops.{patch}
use Rattle.facts.specs.Parts.{above}
use Rattle.facts.proofs.ruling.Listed.close.Given as goal

abbrev pub invariant-loop-n : goal.invariant-loop-n
invariant-loop-n l = l.open-items ≡ patch l.initial.open-items 0 l.n (λ k. cond (ltb 0 (above (get_or l.own k (pos 0)))) 0 (get_or l.initial.open-items k 0))
