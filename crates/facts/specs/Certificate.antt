-- Certificates: what is looked at of one, and the bound that one comes to where it holds. Rules 11.23, 11.24, 18.1 to 18.6 and 18.8, of any nodes and arrows
-- with any cost of one visit. A whole number is kept as two parts (`Parts`): r(n) of rule 18.3 is `rise` less `fall`. `Whole` has it by whole numbers.
-- Choices: there are as many facts here as multipliers, and refusal 23 comes before where that is not so. Of the marked nodes whose potential is the
-- largest the first is taken, and the entry before all. A multiplier or a potential that is not there counts as 0, and refusal 23 comes before; so does a
-- multiplier that is below 0, and refusal 24 comes before.
use Rattle.std.specs.Prelude.{ℕ, zero, suc, ◌+◌, ◌-◌, ◌*◌, ◌/◌, ◌^◌, Bool, not, cond, ◌&&◌, ◌||◌, List, eqb, leb, ltb, ℤ, pos, get_or, length}
use Rattle.lists.specs.Choice.{first, every, every_of}
use Rattle.lists.specs.Lists.{sum_of}
use Rattle.facts.specs.declared.Side.{Side}
use Rattle.facts.specs.declared.Side.TheVariants.{High, Low}
use Rattle.facts.specs.Parts.{above, below, no_more}
use Rattle.facts.specs.Facts.{Facts, fact_count}

-- Rule 18.2.
pub record Certificate : Type 0 where
  pub multipliers : List ℤ
  pub potentials : List ℤ
  pub denominator : ℕ

-- Nodes with arrows, an entry, marks, and what one visit of each node costs: what a certificate is held to.
pub record Course : Type 0 where
  pub nodes : ℕ
  pub entry : ℕ
  pub arrows : ℕ → List ℕ
  pub marked : ℕ → Bool
  pub cost : ℕ → ℕ

-- All that a certificate's bound goes by.
pub record Claim : Type 0 where
  pub side : Side
  pub course : Course
  pub facts : Facts
  pub certificate : Certificate

-- ---- what is given

-- Rule 18.2: the multiplier of fact f, and the potential of node n.
abbrev pub multiplier_of : Certificate → ℕ → ℕ
multiplier_of certificate f = above (get_or certificate.multipliers f (pos 0))

abbrev pub potential_of : Certificate → ℕ → ℤ
potential_of certificate n = get_or certificate.potentials n (pos 0)

-- Rules 18.3 and 18.5: the multipliers, each times a number that its fact has, added up; `part` takes what these are above 0, or what below. They
-- stand in a list `stride` apart, from place `start` on.
abbrev pub weighed : (ℤ → ℕ) → Certificate → List ℤ → ℕ → ℕ → ℕ
weighed part certificate numbers stride start =
    sum_of (length certificate.multipliers) (λ f. multiplier_of certificate f * part (get_or numbers (f * stride + start) (pos 0)))

-- ---- what a visit is left with

-- Rule 18.3: what costs add on a side. They count above 0 on the high side, and below on the low one.
abbrev pub gain : Side → ℕ → ℕ
gain High cost = cost
gain Low cost = 0

abbrev pub loss : Side → ℕ → ℕ
loss High cost = 0
loss Low cost = cost

module _ (claim : Claim) where
  -- Rule 18.3: the cost of a visit, times the denominator.
  abbrev pub scaled_cost : ℕ → ℕ
  scaled_cost n = claim.certificate.denominator * claim.course.cost n

  -- Rule 18.3: the coefficients of node n, times the multipliers.
  abbrev pub weighed_at : (ℤ → ℕ) → ℕ → ℕ
  weighed_at part n = weighed part claim.certificate claim.facts.coefficients claim.course.nodes n

  -- Rule 18.3: r(n), above 0.
  abbrev pub rise : ℕ → ℕ
  rise n = gain claim.side (scaled_cost n) + weighed_at below n

  -- Rule 18.3: and below.
  abbrev pub fall : ℕ → ℕ
  fall n = loss claim.side (scaled_cost n) + weighed_at above n

  -- Rule 18.2: the potential of node n.
  abbrev pub potential : ℕ → ℤ
  potential n = potential_of claim.certificate n

  -- ---- where it holds

  -- Rule 18.4: the potential of node n is no less than r(n).
  abbrev pub start_holds : ℕ → Bool
  start_holds n = leb (rise n + below (potential n)) (above (potential n) + fall n)

  -- Rule 18.4: the potential of t is no less than that of n and r(t).
  abbrev pub arrow_holds : ℕ → ℕ → Bool
  arrow_holds n t = leb (above (potential n) + rise t + below (potential t)) (above (potential t) + below (potential n) + fall t)

  -- Rule 18.4: it holds at node n.
  abbrev pub holds_at : ℕ → Bool
  holds_at n =
      (not (eqb n claim.course.entry) || start_holds n)
      && (not (claim.course.marked n) || every_of (arrow_holds n) (claim.course.arrows n))

  -- Rule 18.4: the first node at which it does not hold, or N if there is none.
  abbrev pub first_failing : ℕ
  first_failing = first claim.course.nodes (λ n. not (holds_at n))

  -- ---- the bound

  -- Rule 18.5: of the entry and the marked ones among the first n nodes, the one with the largest potential.
  abbrev pub peak_to : ℕ → ℕ
  peak_to zero = claim.course.entry
  peak_to (suc n) =
      cond (claim.course.marked n && not (no_more (potential n) (potential (peak_to n)))) n (peak_to n)

  -- Rule 18.5: of all nodes.
  abbrev pub peak : ℕ
  peak = peak_to claim.course.nodes

  -- Rule 18.5: multipliers times limits.
  abbrev pub weighed_limits : (ℤ → ℕ) → ℕ
  weighed_limits part = weighed part claim.certificate claim.facts.limits 1 0

  -- Rule 18.5: Z, above 0.
  abbrev pub top_above : ℕ
  top_above = above (potential peak) + weighed_limits above

  -- Rule 18.5: and below.
  abbrev pub top_below : ℕ
  top_below = below (potential peak) + weighed_limits below

  -- Rule 18.6: Z / D rounded down, where Z is above 0, and else 0.
  abbrev pub highest : ℕ
  highest = (top_above - top_below) / claim.certificate.denominator

  -- Rule 18.6: -Z / D rounded up, where Z is below 0, and else 0.
  abbrev pub lowest : ℕ
  lowest = (top_below - top_above + (claim.certificate.denominator - 1)) / claim.certificate.denominator

-- ---- ranges in which no sum overflows

-- Rule 18.8: the ends of the ranges.
abbrev pub most_denominator : ℕ
most_denominator = 2 ^ 32

abbrev pub most_multipliers : ℕ
most_multipliers = 2 ^ 36

abbrev pub most_coefficient : ℕ
most_coefficient = 2 ^ 24

abbrev pub most_potential : ℕ
most_potential = 2 ^ 60

-- Rule 18.8: every number of a list is from -most to most.
abbrev pub all_within : ℕ → List ℤ → Bool
all_within most numbers =
    every (length numbers) (λ i. leb (above (get_or numbers i (pos 0))) most && leb (below (get_or numbers i (pos 0))) most)

-- Rule 18.8: no multiplier is below 0, and all together are no more than the most.
abbrev pub multipliers_fit : List ℤ → Bool
multipliers_fit multipliers =
    every (length multipliers) (λ f. eqb (below (get_or multipliers f (pos 0))) 0)
    && leb (sum_of (length multipliers) (λ f. above (get_or multipliers f (pos 0)))) most_multipliers

-- Rules 11.24 and 18.8, turned round.
abbrev pub in_range : Facts → Certificate → Bool
in_range facts certificate =
    (ltb 0 certificate.denominator && leb certificate.denominator most_denominator)
    && (all_within most_coefficient facts.coefficients
    && (all_within most_coefficient facts.limits
    && (multipliers_fit certificate.multipliers && all_within most_potential certificate.potentials)))

-- ---- lengths

-- Rules 11.23, 18.1 and 18.2: the lengths that are wanted.
abbrev pub lengths_fit : ℕ → Facts → Certificate → Bool
lengths_fit nodes facts certificate =
    eqb (length facts.coefficients) (fact_count facts * nodes)
    && (eqb (length certificate.multipliers) (fact_count facts) && eqb (length certificate.potentials) nodes)
