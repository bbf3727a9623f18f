-- A certificate that holds bounds what every walk that keeps the facts costs, whatever the nodes, the arrows and the cost of a visit are.
-- Along the walk the potential rises at least as r does; no node has a higher one than the peak; and what the coefficients took off
-- at each visit is, multiplier by multiplier, no more than the limits give back.
use Prim.Native.Nat.{ℕ, zero, suc, ◌+◌, ◌-◌, ◌*◌, ◌/◌, ◌≤◌, ◌<◌}
use mathlib.Core.Bool.{Bool, true, false, cond, not, ◌&&◌, ◌||◌}
use mathlib.Core.List.{List, [], ◌∷◌}
use mathlib.Core.Logic.{◌⊎◌, inl, inr, ⊎_elim}
use mathlib.Core.Path.{◌≡◌, refl, sym, ap, subst, ◌∙◌}
use native.Mathlib.Nat.{mul-add, zero-mul, mul-le-mul_left, mul-le-mul_right, le-div_iff_mul-le, div-lt_iff_lt-mul}
use native.Mathlib.Omega.{arith}
use borrow.Author.Tests.{eq-eqb, eqb-true, leb-true, leb-false, ltb-true, not-false}
use lib.Dec.{eqb, ltb}
use lib.IntN.{ℤ, pos}
use lib.ListN.{get_or, length}
use Rattle.lists.specs.Lists.{Among, sum_of}
use Rattle.lists.proofs.Choice.{and-true, or-true, every_of-all, every-all, none_passes}
use Rattle.lists.proofs.Loops.{any_some}
use Rattle.lists.proofs.Orders.{below_or}
use Rattle.lists.proofs.Sums.{sum_both, sum-equal, sum-monotone, sum-term}
use Rattle.flow.specs.Walk.{Onward, Walk, last_of, visits_of}
use Rattle.flow.proofs.Paying.{along, AllBelow, along-visits}
use Rattle.facts.specs.declared.Side.{Side}
use Rattle.facts.specs.declared.Side.TheVariants.{High, Low}
use Rattle.facts.specs.Parts.{above, below, no_more}
use Rattle.facts.specs.Facts.{Facts, fact_count, coefficient_at, limit_of, KeepsFact, KeepsFacts, rules_out, ruled_out}
use Rattle.facts.specs.Certificate.{Course, Claim, multiplier_of, gain, loss, scaled_cost, weighed_at, rise, fall, potential, start_holds, arrow_holds, holds_at}
use Rattle.facts.specs.Certificate.{first_failing, peak_to, peak, weighed_limits, top_above, top_below, highest, lowest}
use Rattle.facts.proofs.Sums.{sum-zero, sum-scaled, sum-swap}

-- Every node of a list is one of the nodes, and marked.
abbrev pub AllMarked : Course → List ℕ → Type 0
AllMarked course [] = Unit {0}
AllMarked course (n ∷ ns) = ((n < course.nodes) × (course.marked n ≡ true)) × AllMarked course ns

pub all-below : (course : Course) (ns : List ℕ) → AllMarked course ns → AllBelow course.nodes ns
all-below course [] on = tt
all-below course (n ∷ ns) on = (on.0.0, all-below course ns on.1)

last-marked : (course : Course) (n : ℕ) (ts : List ℕ) → AllMarked course (n ∷ ts) → (last_of n ts < course.nodes) × (course.marked (last_of n ts) ≡ true)
last-marked course n [] on = on.0
last-marked course n (t ∷ ts) on = last-marked course t ts on.1

-- ---- whole numbers in order

-- A whole number is no more than another, as a statement.
abbrev pub NoMore : ℤ → ℤ → Type 0
NoMore a b = above a + below b ≤ above b + below a

no-more : (a b : ℤ) → no_more a b ≡ true → NoMore a b
no-more a b e = leb-true (above a + below b) (above b + below a) e

more : (a b : ℤ) → no_more a b ≡ false → NoMore b a
more a b e = omega (arith, leb-false (above a + below b) (above b + below a) e)

-- ---- division

at-most-divided : (d t a b : ℕ) → 0 < d → d * t + b ≤ a → t ≤ (a - b) / d
at-most-divided d t a b positive h = (le-div_iff_mul-le positive).1 (omega arith)

divided-at-most : (d t a b : ℕ) → 0 < d → b ≤ a + d * t → (b - a + (d - 1)) / d ≤ t
divided-at-most d t a b positive h =
    let less : (b - a + (d - 1)) / d < suc t = (div-lt_iff_lt-mul positive).1 (omega arith) in
    omega arith

-- ---- a side takes a cost whole, or not at all

abbrev WholeOrNone : (ℕ → ℕ) → Type 0
WholeOrNone taken = ((k : ℕ) → taken k ≡ k) ⊎ ((k : ℕ) → taken k ≡ 0)

gain-taken : (side : Side) → WholeOrNone (gain side)
gain-taken High = inl (λ k. refl)
gain-taken Low = inr (λ k. refl)

loss-taken : (side : Side) → WholeOrNone (loss side)
loss-taken High = inr (λ k. refl)
loss-taken Low = inl (λ k. refl)

module _ (claim : Claim) where
  -- ---- the peak

  -- The peak of one node more is no lower, and no lower than that node where it is marked.
  peak-grows : (k : ℕ) → NoMore (potential claim (peak_to claim k)) (potential claim (peak_to claim (suc k)))
  peak-grows k = go (claim.course.marked k) (no_more (potential claim k) (potential claim (peak_to claim k))) refl
    where
      go : (m t : Bool) → no_more (potential claim k) (potential claim (peak_to claim k)) ≡ t
          → NoMore (potential claim (peak_to claim k)) (potential claim (cond (m && not t) k (peak_to claim k)))
      go false t e = omega arith
      go true true e = omega arith
      go true false e = more (potential claim k) (potential claim (peak_to claim k)) e

  peak-here : (k : ℕ) → claim.course.marked k ≡ true → NoMore (potential claim k) (potential claim (peak_to claim (suc k)))
  peak-here k marked = rw marked (go (no_more (potential claim k) (potential claim (peak_to claim k))) refl)
    where
      go : (t : Bool) → no_more (potential claim k) (potential claim (peak_to claim k)) ≡ t
          → NoMore (potential claim k) (potential claim (cond (not t) k (peak_to claim k)))
      go true e = no-more (potential claim k) (potential claim (peak_to claim k)) e
      go false e = omega arith

  pub peak-above : (k n : ℕ) → n < k → claim.course.marked n ≡ true → NoMore (potential claim n) (potential claim (peak_to claim k))
  peak-above zero n h marked = absurd (omega arith)
  peak-above (suc k) n h marked = ⊎_elim (λ (e : n < k). omega (arith, peak-above k n e marked, peak-grows k)) last (below_or n k)
    where
      last : k ≤ n → NoMore (potential claim n) (potential claim (peak_to claim (suc k)))
      last l =
          let e : k ≡ n = omega arith in
          subst (λ (j : ℕ). NoMore (potential claim j) (potential claim (peak_to claim (suc k)))) e (peak-here k (subst (λ (j : ℕ). claim.course.marked j ≡ true) (sym e) marked))

  -- ---- where it holds

  module _ (holds : ltb (first_failing claim) claim.course.nodes ≡ false) where
    holds_there : (n : ℕ) → n < claim.course.nodes → holds_at claim n ≡ true
    holds_there n h = not-false (holds_at claim n) (none_passes claim.course.nodes _ holds n h)

    pub starts : claim.course.entry < claim.course.nodes
        → rise claim claim.course.entry + below (potential claim claim.course.entry) ≤ above (potential claim claim.course.entry) + fall claim claim.course.entry
    starts h =
        let n = claim.course.entry in
        let both = and-true _ _ (holds_there n h) in
        leb-true _ _ (or-true _ _ both.0 (ap not (eq-eqb n n refl)))

    climbs : (n t : ℕ) → n < claim.course.nodes → claim.course.marked n ≡ true → Among t (claim.course.arrows n)
        → above (potential claim n) + rise claim t + below (potential claim t) ≤ above (potential claim t) + below (potential claim n) + fall claim t
    climbs n t h marked among =
        let both = and-true (not (eqb n claim.course.entry) || start_holds claim n) _ (holds_there n h) in
        let holds = every_of-all (arrow_holds claim n) (claim.course.arrows n) (or-true _ _ both.1 (ap not marked)) t among in
        omega (arith, leb-true, holds)

    -- ---- along a walk

    pub climb : (n : ℕ) (ts : List ℕ) → Onward claim.course.arrows n ts → AllMarked claim.course (n ∷ ts)
        → above (potential claim n) + along (rise claim) ts + below (potential claim (last_of n ts)) ≤ above (potential claim (last_of n ts)) + below (potential claim n) + along (fall claim) ts
    climb n [] on marked = omega arith
    climb n (t ∷ ts) on marked = omega (arith, climbs n t marked.0.0 marked.0.1 on.0, climb t ts on.1 marked.1)

    -- From before the entry to the peak.
    walk-climbs : (ts : List ℕ) → Walk claim.course.arrows claim.course.entry ts → AllMarked claim.course (claim.course.entry ∷ ts)
        → along (rise claim) (claim.course.entry ∷ ts) + below (potential claim (peak claim)) ≤ above (potential claim (peak claim)) + along (fall claim) (claim.course.entry ∷ ts)
    walk-climbs ts walk marked =
        let last = last-marked claim.course claim.course.entry ts marked in
        omega (arith, starts marked.0.0, climb claim.course.entry ts walk marked, peak-above claim.course.nodes (last_of claim.course.entry ts) last.0 last.1)

  -- ---- sums over the nodes, by visits

  abbrev nodes : ℕ
  nodes = claim.course.nodes

  -- Facts are counted by their multipliers.
  abbrev count : ℕ
  count = length claim.certificate.multipliers

  abbrev multiplier : ℕ → ℕ
  multiplier = multiplier_of claim.certificate

  -- A part of a coefficient.
  abbrev coefficient : (ℤ → ℕ) → ℕ → ℕ → ℕ
  coefficient part f n = part (coefficient_at nodes claim.facts f n)

  module _ (visits : ℕ → ℕ) where
    -- What the visits cost.
    abbrev pub visits_cost : ℕ
    visits_cost = sum_of nodes (λ n. visits n * claim.course.cost n)

    -- A part of the coefficients of a fact times the visits; and these times the multipliers.
    abbrev fact_sum : (ℤ → ℕ) → ℕ → ℕ
    fact_sum part f = sum_of nodes (λ n. coefficient part f n * visits n)

    abbrev weighed_facts : (ℤ → ℕ) → ℕ
    weighed_facts part = sum_of count (λ f. multiplier f * fact_sum part f)

    -- The cost of all visits, D times, whichever comes first.
    cost-scaled : sum_of nodes (λ n. visits n * scaled_cost claim n) ≡ claim.certificate.denominator * visits_cost
    cost-scaled =
        sum-equal nodes (λ n. visits n * scaled_cost claim n) (λ n. claim.certificate.denominator * (visits n * claim.course.cost n)) (λ n h. omega arith)
        ∙ sum-scaled claim.certificate.denominator nodes (λ n. visits n * claim.course.cost n)

    side-scaled : (taken : ℕ → ℕ) → WholeOrNone taken → sum_of nodes (λ n. visits n * taken (scaled_cost claim n)) ≡ taken (claim.certificate.denominator * visits_cost)
    side-scaled taken (inl whole) = sum-equal nodes _ _ (λ n h. ap (λ (x : ℕ). visits n * x) (whole (scaled_cost claim n))) ∙ cost-scaled ∙ sym (whole _)
    side-scaled taken (inr none) =
        sum-equal nodes _ (λ n. 0) (λ n h. ap (λ (x : ℕ). visits n * x) (none (scaled_cost claim n)) ∙ omega arith)
        ∙ sum-zero nodes
        ∙ sym (none _)

    -- What each visit adds by the coefficients, node by node or fact by fact.
    weighed-facts : (part : ℤ → ℕ) → sum_of nodes (λ n. visits n * weighed_at claim part n) ≡ weighed_facts part
    weighed-facts part =
        sum-equal nodes (λ n. visits n * weighed_at claim part n) (λ n. sum_of count (λ f. multiplier f * (coefficient part f n * visits n)))
        (λ n h. sym (sum-scaled (visits n) count (λ f. multiplier f * coefficient part f n)) ∙ sum-equal count _ _ (λ f l. omega arith))
        ∙ sum-swap nodes count (λ n f. multiplier f * (coefficient part f n * visits n))
        ∙ sum-equal count _ _ (λ f l. sum-scaled (multiplier f) nodes (λ n. coefficient part f n * visits n))

    -- What all visits cost and what the coefficients add.
    both-summed : (taken : ℕ → ℕ) (part : ℤ → ℕ) → WholeOrNone taken
        → sum_of nodes (λ n. visits n * (taken (scaled_cost claim n) + weighed_at claim part n)) ≡ taken (claim.certificate.denominator * visits_cost) + weighed_facts part
    both-summed taken part either =
        sum-equal nodes _ _ (λ n h. mul-add (visits n) (taken (scaled_cost claim n)) (weighed_at claim part n))
        ∙ sum_both nodes (λ n. visits n * taken (scaled_cost claim n)) (λ n. visits n * weighed_at claim part n)
        ∙ (λ i. side-scaled taken either i + weighed-facts part i)

    -- ---- what the facts give

    module _ (fits : count ≡ fact_count claim.facts) (keeps : KeepsFacts nodes claim.facts visits) where
      facts-kept : weighed_facts above + weighed_limits claim below ≤ weighed_limits claim above + weighed_facts below
      facts-kept =
          let one = sum_both count (λ f. multiplier f * fact_sum above f) (λ f. multiplier f * below (limit_of claim.facts f)) in
          let other = sum_both count (λ f. multiplier f * above (limit_of claim.facts f)) (λ f. multiplier f * fact_sum below f) in
          let each = sum-monotone count _ _ kept in
          let aboves = limits above in
          let belows = limits below in
          omega arith
        where
          kept : (f : ℕ) → f < count → multiplier f * fact_sum above f + multiplier f * below (limit_of claim.facts f) ≤ multiplier f * above (limit_of claim.facts f) + multiplier f * fact_sum below f
          kept f h = omega (arith, mul-le-mul_left (multiplier f) (keeps f (omega arith)))

          limits : (part : ℤ → ℕ) → sum_of count (λ f. multiplier f * part (limit_of claim.facts f)) ≡ weighed_limits claim part
          limits part = sum-equal count _ _ (λ f h. ap (λ (k : ℕ). multiplier f * part (get_or claim.facts.limits k (pos 0))) (omega arith))

  -- ---- the bound

  module _ (fits : count ≡ fact_count claim.facts) (holds : ltb (first_failing claim) nodes ≡ false)
      (ts : List ℕ) (walk : Walk claim.course.arrows claim.course.entry ts)
      (marked : AllMarked claim.course (claim.course.entry ∷ ts))
      (keeps : KeepsFacts nodes claim.facts (λ n. visits_of n (claim.course.entry ∷ ts))) where
    abbrev walk_visits : ℕ → ℕ
    walk_visits n = visits_of n (claim.course.entry ∷ ts)

    abbrev walk_cost : ℕ
    walk_cost = visits_cost walk_visits

    -- D times what the walk's visits cost, on a side, is no more than Z.
    abbrev pub NoMoreThanTop : Side → Type 0
    NoMoreThanTop side =
        gain side (claim.certificate.denominator * walk_cost) + top_below claim ≤ top_above claim + loss side (claim.certificate.denominator * walk_cost)

    pub walk-bounded : NoMoreThanTop claim.side
    walk-bounded =
        let inside = all-below claim.course (claim.course.entry ∷ ts) marked in
        let climbed = walk-climbs holds ts walk marked in
        let rises = along-visits nodes (rise claim) (claim.course.entry ∷ ts) inside in
        let falls = along-visits nodes (fall claim) (claim.course.entry ∷ ts) inside in
        let gains = both-summed walk_visits (gain claim.side) below (gain-taken claim.side) in
        let losses = both-summed walk_visits (loss claim.side) above (loss-taken claim.side) in
        let given = facts-kept walk_visits fits keeps in
        omega arith

    -- Rule 18.6, of the costs alone.
    pub walk-no-more : claim.side ≡ High → 0 < claim.certificate.denominator → walk_cost ≤ highest claim
    walk-no-more high positive =
        at-most-divided claim.certificate.denominator walk_cost (top_above claim) (top_below claim) positive (omega (arith, subst NoMoreThanTop high walk-bounded))

    pub walk-no-less : claim.side ≡ Low → 0 < claim.certificate.denominator → lowest claim ≤ walk_cost
    walk-no-less low positive =
        divided-at-most claim.certificate.denominator walk_cost (top_above claim) (top_below claim) positive (omega (arith, subst NoMoreThanTop low walk-bounded))

-- ---- rule 18.7

module _ (nodes : ℕ) (facts : Facts) (visits : ℕ → ℕ) (n : ℕ) where
  -- A fact that rules the node out: what its coefficients sum up to is no less than the visits, and no more than 0.
  out-by : (f : ℕ) → KeepsFact nodes facts visits f → n < nodes → rules_out nodes facts n f ≡ true → visits n ≡ 0
  out-by f keeps inside out =
      let both = and-true (ltb 0 (above (coefficient_at nodes facts f n))) _ out in
      let rest = and-true (eqb (above (limit_of facts f)) 0) _ both.1 in
      let positive = ltb-true 0 (above (coefficient_at nodes facts f n)) both.0 in
      let limit = eqb-true (above (limit_of facts f)) 0 rest.0 in
      let none =
      sum-equal nodes (λ k. below (coefficient_at nodes facts f k) * visits k) (λ k. 0)
      (λ k h. ap (λ (x : ℕ). x * visits k) (eqb-true _ 0 (every-all nodes _ rest.1 k h)) ∙ zero-mul (visits k))
      in
      let term = sum-term nodes n (λ k. above (coefficient_at nodes facts f k) * visits k) inside in
      let least = mul-le-mul_right (visits n) positive in
      omega (arith, sum-zero nodes)

  pub ruled_out-zero : KeepsFacts nodes facts visits → n < nodes → ruled_out nodes facts n ≡ true → visits n ≡ 0
  ruled_out-zero keeps inside out =
      let some = any_some (fact_count facts) (rules_out nodes facts n) out in
      out-by some.0 (keeps some.0 some.1) inside some.2
