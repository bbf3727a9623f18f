-- What the functions promise one another: parts that are small, lists that reach far enough, and the tests of rules 18.4, 18.5 and 18.7 by lists.
-- Nothing here is a rule of the tool: `Facts` and `Certificate` have the rules, and these unfold to them.
use Rattle.std.specs.Prelude.{ℕ, ◌+◌, ◌*◌, ◌^◌, ◌≤◌, ◌<◌, Bool, true, cond, ◌&&◌, List, ◌≡◌, eqb, leb, ltb, ℤ, pos, get_or, length}
use Rattle.lists.specs.Choice.{every}
use Rattle.lists.specs.Lists.{list_of}
use Rattle.facts.specs.declared.parts.Parts.{Parts}
use Rattle.facts.specs.Parts.{above, below}
use Rattle.facts.specs.Facts.{Facts, fact_count, coefficient_at, limit_of, rules_out}
use Rattle.facts.specs.Certificate.{most_coefficient, most_potential, all_within, multipliers_fit, weighed}

-- ---- small numbers

-- The most that multipliers times numbers come to.
abbrev pub most_weighed : ℕ
most_weighed = 2 ^ 60

pub record SmallParts (parts : Parts) : Type 0 where
  pub above_most : parts.above ≤ most_weighed
  pub below-most : parts.below ≤ most_weighed

-- The same with costs or a potential added.
pub record SmallLeft (parts : Parts) : Type 0 where
  pub above_most : parts.above ≤ 2 * most_weighed
  pub below-most : parts.below ≤ 2 * most_weighed

-- ---- lists that reach as far

-- There is a number for each multiplier, and all are in their ranges.
pub record Weighable (multipliers numbers : List ℤ) (stride start : ℕ) : Type 0 where
  pub reaches : (f : ℕ) → f < length multipliers → f * stride + start < length numbers
  pub multipliers-fit : multipliers_fit multipliers ≡ true
  pub numbers_fit : all_within most_coefficient numbers ≡ true

-- A potential is there, and all are in their range.
pub record PlaceIn (potentials : List ℤ) (n : ℕ) : Type 0 where
  pub inside : n < length potentials
  pub potentials-fit : all_within most_potential potentials ≡ true

-- Each fact has a coefficient for each node.
abbrev pub FactsLaid : ℕ → Facts → Type 0
FactsLaid nodes facts = length facts.coefficients ≡ fact_count facts * nodes

-- ---- what comes out

abbrev pub parts_weighed : List ℤ → List ℤ → ℕ → ℕ → Parts
parts_weighed multipliers numbers stride start =
    record {
      above = weighed above (record { multipliers = multipliers; potentials = numbers; denominator = 1 }) numbers stride start;
      below = weighed below (record { multipliers = multipliers; potentials = numbers; denominator = 1 }) numbers stride start;
    }

-- Rule 18.4, where a visit is left with these parts.
abbrev pub start_by : Parts → List ℤ → ℕ → Bool
start_by left potentials n =
    leb (left.above + below (get_or potentials n (pos 0))) (above (get_or potentials n (pos 0)) + left.below)

abbrev pub arrow_by : Parts → List ℤ → ℕ → ℕ → Bool
arrow_by left potentials n t =
    leb (above (get_or potentials n (pos 0)) + left.above + below (get_or potentials t (pos 0)))
    (above (get_or potentials t (pos 0)) + below (get_or potentials n (pos 0)) + left.below)

-- Rule 18.5: the potential of n is above that of another.
abbrev pub higher_by : List ℤ → ℕ → ℕ → Bool
higher_by potentials n other =
    ltb (above (get_or potentials other (pos 0)) + below (get_or potentials n (pos 0)))
    (above (get_or potentials n (pos 0)) + below (get_or potentials other (pos 0)))

-- Rule 18.7: no coefficient of fact f is below 0.
abbrev pub none_below : ℕ → List ℤ → ℕ → Bool
none_below nodes coefficients f = every nodes (λ k. eqb (below (get_or coefficients (f * nodes + k) (pos 0))) 0)

-- Rule 18.7: whether fact f rules out the nodes that it counts.
abbrev pub is_ruling : ℕ → Facts → ℕ → Bool
is_ruling nodes facts f = eqb (above (limit_of facts f)) 0 && every nodes (λ k. eqb (below (coefficient_at nodes facts f k)) 0)

-- Rule 18.7: 0 for each node that fact f rules out, and for each other what stood there.
abbrev pub closed : ℕ → Facts → ℕ → List ℕ → List ℕ
closed nodes facts f before = list_of nodes (λ n. cond (rules_out nodes facts n f) 0 (get_or before n 0))
