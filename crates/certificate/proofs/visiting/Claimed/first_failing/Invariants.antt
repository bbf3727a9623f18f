use Prim.Native.Nat.{ℕ, ◌≤◌, ◌-◌}
use mathlib.Core.Bool.{Bool, not}
use mathlib.Core.List.{List}
use mathlib.Core.Path.{◌≡◌}
use Rattle.lists.specs.Choice.{first, first_from}
use Rattle.facts.specs.Certificate.{holds_at}
use Rattle.certificate.specs.declared.visiting.Claimed.{Claimed}
use Rattle.certificate.specs.Given.{plan_claim_in}
use Rattle.certificate.proofs.visiting.Claimed.first_failing.Given as goal

-- The certificate does not hold at node n.
abbrev pub fails : Claimed → List ℕ → List ℕ → ℕ → Bool
fails claimed plan marks n = not (holds_at (plan_claim_in claimed plan marks) n)

abbrev pub invariant-loop-n : goal.invariant-loop-n
invariant-loop-n l = (l.n ≤ l.self.nodes) × (first l.self.nodes (fails l.self l.plan l.marks) ≡ first_from l.n (l.self.nodes - l.n) (fails l.self l.plan l.marks))

abbrev pub decreases-loop-n : goal.decreases-loop-n
decreases-loop-n l = l.self.nodes - l.n
