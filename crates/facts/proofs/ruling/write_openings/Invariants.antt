use Prim.Native.Nat.{ℕ}
use mathlib.Core.Bool.{cond, false}
use mathlib.Core.List.{List}
use mathlib.Core.Path.{◌≡◌}
use lib.IntN.{ℤ}
use Rattle.lists.specs.Lists.{list_of, written}
use Rattle.lists.specs.Loops.{any}
use Rattle.facts.specs.Facts.{rules_out}
use Rattle.facts.proofs.ruling.write_openings.Given as goal

-- 0 for each node that one of the first f facts rules out, and 1 for each other.
abbrev pub open_after : List ℤ → List ℤ → ℕ → ℕ → ℕ → ℕ
open_after coefficients limits nodes f n = cond (any false f (rules_out nodes (record { coefficients = coefficients; limits = limits }) n)) 0 1

abbrev pub invariant-loop-f : goal.invariant-loop-f
invariant-loop-f l = l.out ≡ written (list_of l.nodes (open_after l.coefficients l.limits l.nodes l.f)) l.fn.out
