-- Facts about a walk: sums of visits, each times a whole number, and the most that such a sum may be. Rules 18.1 and 18.7, of any nodes.
-- Choices: the limits tell how many facts there are; a coefficient or a limit that is not there counts as 0, and refusal 23 comes before.
use Rattle.std.specs.Prelude.{ℕ, ◌+◌, ◌*◌, ◌≤◌, ◌<◌, Bool, false, cond, ◌&&◌, List, eqb, ltb, ℤ, pos, get_or, length}
use Rattle.lists.specs.Choice.{every}
use Rattle.lists.specs.Lists.{list_of, sum_of}
use Rattle.lists.specs.Loops.{any}
use Rattle.facts.specs.Parts.{above, below}

-- Rule 18.1: the coefficients, fact after fact, each fact's in the order of the nodes; and the limits.
pub record Facts : Type 0 where
  pub coefficients : List ℤ
  pub limits : List ℤ

-- Rule 18.1: F.
abbrev pub fact_count : Facts → ℕ
fact_count facts = length facts.limits

-- Rule 18.1: the coefficient of fact f at node n, of so many nodes.
abbrev pub coefficient_at : ℕ → Facts → ℕ → ℕ → ℤ
coefficient_at nodes facts f n = get_or facts.coefficients (f * nodes + n) (pos 0)

-- Rule 18.1: the limit of fact f.
abbrev pub limit_of : Facts → ℕ → ℤ
limit_of facts f = get_or facts.limits f (pos 0)

-- Rule 18.1, as a statement: coefficients times these visits add up to no more than the limit of fact f. What is below 0 stands on the other side.
abbrev pub KeepsFact : ℕ → Facts → (ℕ → ℕ) → ℕ → Type 0
KeepsFact nodes facts visits f =
    sum_of nodes (λ n. above (coefficient_at nodes facts f n) * visits n) + below (limit_of facts f)
    ≤ above (limit_of facts f) + sum_of nodes (λ n. below (coefficient_at nodes facts f n) * visits n)

-- Rule 18.1: of every fact.
abbrev pub KeepsFacts : ℕ → Facts → (ℕ → ℕ) → Type 0
KeepsFacts nodes facts visits = (f : ℕ) → f < fact_count facts → KeepsFact nodes facts visits f

-- Rule 18.7: whether fact f rules node n out.
abbrev pub rules_out : ℕ → Facts → ℕ → ℕ → Bool
rules_out nodes facts n f =
    ltb 0 (above (coefficient_at nodes facts f n))
    && (eqb (above (limit_of facts f)) 0 && every nodes (λ k. eqb (below (coefficient_at nodes facts f k)) 0))

-- Rule 18.7: whether some fact does.
abbrev pub ruled_out : ℕ → Facts → ℕ → Bool
ruled_out nodes facts n = any false (fact_count facts) (rules_out nodes facts n)

-- Rule 18.7, as ceilings have it: 0 at a node that is ruled out, and 1 at any other.
abbrev pub openings : ℕ → Facts → List ℕ
openings nodes facts = list_of nodes (λ n. cond (ruled_out nodes facts n) 0 1)
