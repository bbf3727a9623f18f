-- Floors and ceilings as facts, and certificates for them that come to the two totals. Rules 10.1 to 10.3 and 18.1 to 18.3: of N nodes, fact n says that
-- node n is visited no more often than its ceiling, and fact N + n that it is visited no less often than its floor.
use Rattle.std.specs.Prelude.{ℕ, ◌+◌, ◌-◌, ◌*◌, ◌/◌, ◌%◌, cond, eqb, ltb, ℤ, pos, negsuc, neg_ℤ, get_or}
use Rattle.lists.specs.Lists.{list_of}
use Rattle.facts.specs.declared.Side.{Side}
use Rattle.facts.specs.declared.Side.TheVariants.{High, Low}
use Rattle.facts.specs.Facts.{Facts}
use Rattle.facts.specs.Certificate.{Certificate}
use Rattle.ages.specs.Plan.{Plan}
use Rattle.costs.specs.Costs.{Figures}
use Rattle.tables.specs.Lent.{Lent}
use Rattle.certificate.specs.Bound.{Question, course_of}

-- The coefficient of fact f at node n: 1 in the fact of its ceiling, -1 in that of its floor, 0 in all others.
abbrev pub visit_coefficient : ℕ → ℕ → ℕ → ℤ
visit_coefficient nodes f n = cond (eqb f n) (pos 1) (cond (eqb f (nodes + n)) (negsuc 0) (pos 0))

-- Its limit: a ceiling, or a floor below 0.
abbrev pub visit_limit : ℕ → Figures → ℕ → ℤ
visit_limit nodes figures f =
    cond (ltb f nodes) (pos (get_or figures.ceilings f 0)) (neg_ℤ (pos (get_or figures.floors (f - nodes) 0)))

abbrev pub visit_facts : ℕ → Figures → Facts
visit_facts nodes figures =
    record {
      coefficients = list_of (2 * nodes * nodes) (λ i. visit_coefficient nodes (i / nodes) (i % nodes));
      limits = list_of (2 * nodes) (visit_limit nodes figures);
    }

-- On the high side each ceiling's fact is multiplied by what one visit counts, on the low side each floor's.
abbrev pub visit_multiplier : Side → ℕ → (ℕ → ℕ) → ℕ → ℤ
visit_multiplier High nodes cost f = cond (ltb f nodes) (pos (cost f)) (pos 0)
visit_multiplier Low nodes cost f = cond (ltb f nodes) (pos 0) (pos (cost (f - nodes)))

-- All potentials are 0.
abbrev pub visit_certificate : Side → ℕ → (ℕ → ℕ) → Certificate
visit_certificate side nodes cost =
    record {
      multipliers = list_of (2 * nodes) (visit_multiplier side nodes cost);
      potentials = list_of nodes (λ n. pos 0);
      denominator = 1;
    }

-- The question that figures come to on a side.
abbrev pub visit_question : Plan → Lent → Figures → Side → Question
visit_question plan lent figures side =
    record {
      costs = figures.costs;
      side = side;
      facts = visit_facts plan.nodes figures;
      certificate = visit_certificate side plan.nodes (course_of plan lent side figures.costs).cost;
    }
