-- What the functions promise one another: a claim by a plan's list and the classes of all nodes, and what has to be there for it. Nothing here is a rule
-- of the tool: `facts` and `Bound` have rules 18.5, 18.6 and 18.9, which it says by lists, and laws lead there.
use Rattle.std.specs.Prelude.{ℕ, zero, suc, ◌+◌, ◌-◌, ◌*◌, ◌/◌, ◌^◌, ◌≤◌, ◌<◌, Bool, true, not, cond, ◌&&◌, List, [], ◌≡◌, eqb, ltb, ℤ, pos, get_or, length, Err, Result}
use Rattle.lists.specs.Slices.{Passed}
use Rattle.refusals.specs.declared.Refusal.TheVariants.{CertificateFails}
use Rattle.chart.specs.Geometry.{most_touches}
use Rattle.chart.specs.Record.{Leads, arrows_of}
use Rattle.facts.specs.declared.Side.{Side}
use Rattle.facts.specs.declared.Side.TheVariants.{High, Low}
use Rattle.facts.specs.declared.parts.Parts.{Parts}
use Rattle.facts.specs.Parts.{above, below}
use Rattle.facts.specs.Slices.{PassedWholes}
use Rattle.facts.specs.Facts.{Facts, openings}
use Rattle.facts.specs.Certificate.{Claim, most_denominator, most_coefficient, most_potential, all_within, multipliers_fit, gain, loss, rise, fall}
use Rattle.facts.specs.Inner.{parts_weighed, higher_by}
use Rattle.ages.specs.Plan.{Plan}
use Rattle.plan.specs.Listed.{nodes_in, entry_in, node_place, node_in}
use Rattle.tables.specs.Lent.{Lent}
use Rattle.totals.specs.declared.sums.Tariff.{Tariff}
use Rattle.totals.specs.Inner.{costs_of, classes_cost}
use Rattle.totals.specs.Charged.{charged_blocks}
use Rattle.certificate.specs.declared.visiting.Price.{Price}
use Rattle.certificate.specs.Bound.{Question, asked, side_rate, failing_at, bound_of}
use Rattle.refusals.specs.declared.Refusal.{Refusal}

-- The lists that a certificate is held to, at one place: the classes of all nodes, coefficients, multipliers and potentials.
pub record Lists : Type 0 where
  pub classes : List ℕ
  pub coefficients : List ℤ
  pub multipliers : List ℤ
  pub potentials : List ℤ

-- The same of slices.
abbrev pub passed_lists : Passed → PassedWholes → PassedWholes → PassedWholes → Lists
passed_lists classes coefficients multipliers potentials =
    record { classes = classes.now; coefficients = coefficients.now; multipliers = multipliers.now; potentials = potentials.now }

-- ---- claims by lists

-- What one visit of each node costs, by a list of their classes.
abbrev pub cost_by : Price → List ℕ → ℕ → ℕ
cost_by price classes = classes_cost (side_rate price.side (costs_of price.tariff)) classes

-- A claim about so many nodes, by lists. The limits are not looked at where a certificate is held to nodes and arrows.
abbrev pub claim_by : Price → Lists → ℕ → ℕ → (ℕ → List ℕ) → (ℕ → Bool) → Claim
claim_by price lists nodes entry arrows marked =
    record {
      side = price.side;
      course = record { nodes = nodes; entry = entry; arrows = arrows; marked = marked; cost = cost_by price lists.classes };
      facts = record { coefficients = lists.coefficients; limits = [] };
      certificate = record { multipliers = lists.multipliers; potentials = lists.potentials; denominator = price.denominator };
    }

-- The same of a plan's list, and of marks.
abbrev pub marked_by : List ℕ → ℕ → Bool
marked_by marks n = not (eqb (get_or marks n 0) 0)

abbrev pub plan_claim : Price → Lists → List ℕ → List ℕ → Claim
plan_claim price lists plan marks =
    claim_by price lists (nodes_in plan) (entry_in plan) (λ n. arrows_of (node_in plan n).targets) (marked_by marks)

-- Where nodes and arrows are not looked at.
abbrev pub plain_claim : Price → Lists → ℕ → Claim
plain_claim price lists nodes = claim_by price lists nodes 0 (λ n. []) (λ n. true)

-- What a visit of node n is left with, in two parts.
abbrev pub left_by : Price → Lists → ℕ → ℕ → Parts
left_by price lists nodes n =
    record { above = rise (plain_claim price lists nodes) n; below = fall (plain_claim price lists nodes) n }

-- The same by a cost that is multiplied already, and what multipliers times coefficients come to.
abbrev pub left_in : Side → ℕ → Parts → Parts
left_in side scaled weights = record { above = gain side scaled + weights.below; below = loss side scaled + weights.above }

-- Rule 18.5, by lists: of two nodes, n if it is marked and has the higher potential.
abbrev pub higher_node : List ℕ → List ℤ → ℕ → ℕ → ℕ
higher_node marks potentials n other = cond (marked_by marks n && higher_by potentials n other) n other

-- Of the entry and the marked ones among the first n nodes, the one with the largest potential.
abbrev pub peak_by : List ℕ → List ℤ → ℕ → ℕ → ℕ
peak_by marks potentials entry zero = entry
peak_by marks potentials entry (suc n) = higher_node marks potentials n (peak_by marks potentials entry n)

-- Z, where the peak is given.
abbrev pub top_by : List ℤ → List ℤ → List ℤ → ℕ → Parts
top_by multipliers limits potentials at =
    record {
      above = above (get_or potentials at (pos 0)) + (parts_weighed multipliers limits 1 0).above;
      below = below (get_or potentials at (pos 0)) + (parts_weighed multipliers limits 1 0).below;
    }

-- ---- what has to be there

-- Marks and potentials of so many nodes.
pub record MarksLaid (marks : List ℕ) (potentials : List ℤ) (nodes : ℕ) : Type 0 where
  pub marks_long : nodes ≤ length marks
  pub potentials_long : length potentials ≡ nodes
  pub potentials-fit : all_within most_potential potentials ≡ true

-- The most that a visit costs, times a denominator.
abbrev pub most_scaled : ℕ
most_scaled = 2 ^ 32 * (2 * 65535)

-- Lists long enough for so many nodes, with numbers in their ranges.
pub record Laid (price : Price) (lists : Lists) (nodes : ℕ) : Type 0 where
  pub classes_long : most_touches * nodes ≤ length lists.classes
  pub coefficients_long : length lists.coefficients ≡ length lists.multipliers * nodes
  pub potentials_long : length lists.potentials ≡ nodes
  pub coefficients-fit : all_within most_coefficient lists.coefficients ≡ true
  pub multipliers-fit : multipliers_fit lists.multipliers ≡ true
  pub potentials-fit : all_within most_potential lists.potentials ≡ true
  pub denominator_most : price.denominator ≤ most_denominator

-- A plan's list that is long enough, whose entry and targets are nodes.
pub record PlanLaid (plan : List ℕ) : Type 0 where
  pub long : node_place (nodes_in plan) ≤ length plan
  pub entry_inside : entry_in plan < nodes_in plan
  pub leads : (n : ℕ) → n < nodes_in plan → Leads (nodes_in plan) (node_in plan n).targets

-- ---- the answer

-- Rule 18.6, by lists: what is charged once for each block that is kept at a node that no fact rules out.
abbrev pub loads_by : Tariff → List ℕ → List ℕ → Facts → ℕ
loads_by tariff plan classes facts = (tariff.miss - tariff.hit) * charged_blocks plan classes (openings (nodes_in plan) facts)

-- Rule 18.6, where Z is given.
abbrev pub bound_by : Side → ℕ → Parts → ℕ → ℕ
bound_by High denominator top loads = (top.above - top.below) / denominator + loads
bound_by Low denominator top loads = (top.below - top.above + (denominator - 1)) / denominator

-- Rule 18.9, where lists have their lengths and numbers are in their ranges.
abbrev pub certified_by : Plan → Lent → Question → Result ℕ Refusal
certified_by plan lent question =
    cond (ltb (failing_at plan lent question) plan.nodes) (Err (CertificateFails (failing_at plan lent question))) (bound_of plan lent question)

-- The same question, by a price.
abbrev pub price_asks : Price → Facts → List ℤ → List ℤ → Question
price_asks price facts multipliers potentials =
    asked price.side price.tariff.hit price.tariff.miss facts
    (record { multipliers = multipliers; potentials = potentials; denominator = price.denominator })
