-- Certificates for floors and ceilings as facts, of any course: a visit is left with nothing, so that they hold with potentials of 0, and their bounds
-- are the sum of the ceilings and the sum of the floors.
use Prim.Native.Nat.{ℕ, zero, suc, ◌+◌, ◌-◌, ◌*◌, ◌<◌}
use mathlib.Core.Bool.{Bool, false, cond}
use mathlib.Core.Logic.{⊎_elim}
use mathlib.Core.Path.{◌≡◌, refl, sym, ap, ◌∙◌}
use native.Mathlib.Nat.{mul-zero, mul_comm, div-one}
use native.Mathlib.Omega.{arith}
use borrow.Author.Tests.{eq-eqb, ne_eqb, lt-ltb, le-ltb}
use lib.Dec.{eqb, ltb}
use lib.IntN.{ℤ, pos}
use lib.ListN.{get_or, length}
use Rattle.lists.specs.Lists.{list_from, sum_of}
use Rattle.lists.proofs.Listed.{length-list_of, get_or-list_of}
use Rattle.lists.proofs.Orders.{same_or}
use Rattle.lists.proofs.Sums.{sum-equal, sum-pick}
use Rattle.facts.specs.declared.Side.{Side}
use Rattle.facts.specs.declared.Side.TheVariants.{High, Low}
use Rattle.facts.specs.Parts.{above, below}
use Rattle.facts.specs.Facts.{coefficient_at, limit_of}
use Rattle.facts.specs.Certificate.{Course, Claim, multiplier_of, gain, loss, rise, fall, potential, peak, weighed_limits, top_above, top_below, highest, lowest}
use Rattle.costs.specs.Costs.{Figures}
use Rattle.demands.specs.AsFacts.{visit_facts, visit_multiplier, visit_certificate}
use Rattle.demands.proofs.AsFacts.{sum-nothing, above-one, below_one, above-less, below_less}
use Rattle.demands.proofs.AsFacts.{ceiling-coefficient, ceiling-limit, floor-coefficient, floor-limit-above, floor-limit-below}

-- ---- sums in two halves

sum-halves : (m n : ℕ) (f : ℕ → ℕ) → sum_of (m + n) f ≡ sum_of m f + sum_of n (λ i. f (m + i))
sum-halves m zero f = let none : m + 0 ≡ m = omega arith in ap (λ (k : ℕ). sum_of k f) none ∙ omega arith
sum-halves m (suc n) f =
    let rest = sum-halves m n f in
    let one : m + suc n ≡ suc (m + n) = omega arith in
    let more : sum_of (m + suc n) f ≡ sum_of (m + n) f + f (m + n) = ap (λ (k : ℕ). sum_of k f) one in
    omega arith

-- ---- a test of two numbers, either way round

either_way : (a b : ℕ) → eqb a b ≡ eqb b a
either_way a b =
    ⊎_elim (λ (e : a ≡ b). eq-eqb a b e ∙ sym (eq-eqb b a (sym e)))
    (λ (e : a ≡ b → ⊥). ne_eqb a b e ∙ sym (ne_eqb b a (λ q. e (sym q))))
    (same_or a b)

-- ---- a list of one number alone has it at every place, where past the end it counts too

same-everywhere : (k n i : ℕ) (z : ℤ) → get_or (list_from k n (λ j. z)) i z ≡ z
same-everywhere k zero i z = refl
same-everywhere k (suc n) zero z = refl
same-everywhere k (suc n) (suc i) z = same-everywhere (suc k) n i z

module _ (course : Course) (figures : Figures) (side : Side) where
  abbrev nodes : ℕ
  nodes = course.nodes

  abbrev cost : ℕ → ℕ
  cost = course.cost

  abbrev pub claim : Claim
  claim =
      record {
        side = side;
        course = course;
        facts = visit_facts nodes figures;
        certificate = visit_certificate side nodes cost;
      }

  -- ---- the multipliers

  abbrev pub multiplier : ℕ → ℕ
  multiplier = multiplier_of claim.certificate

  pub multiplier-count : length claim.certificate.multipliers ≡ 2 * nodes
  multiplier-count = length-list_of (2 * nodes) (visit_multiplier side nodes cost)

  pub multiplier-is : (f : ℕ) → f < 2 * nodes → get_or claim.certificate.multipliers f (pos 0) ≡ visit_multiplier side nodes cost f
  multiplier-is f h = get_or-list_of (2 * nodes) (visit_multiplier side nodes cost) (pos 0) f h

  -- On the high side the ceilings' facts have multipliers, on the low side the floors'.
  pub ceiling-multiplier : (f : ℕ) → f < nodes → multiplier f ≡ gain side (cost f)
  ceiling-multiplier f h = ap above (multiplier-is f (omega arith)) ∙ of-side side
    where
      of-side : (s : Side) → above (visit_multiplier s nodes cost f) ≡ gain s (cost f)
      of-side High = rw (lt-ltb f nodes h)
      of-side Low = rw (lt-ltb f nodes h)

  pub floor-multiplier : (g : ℕ) → g < nodes → multiplier (nodes + g) ≡ loss side (cost g)
  floor-multiplier g h = ap above (multiplier-is (nodes + g) (omega arith)) ∙ of-side side
    where
      past : ltb (nodes + g) nodes ≡ false
      past = le-ltb (nodes + g) nodes (omega arith)

      back : nodes + g - nodes ≡ g
      back = omega arith

      of-side : (s : Side) → above (visit_multiplier s nodes cost (nodes + g)) ≡ loss s (cost g)
      of-side High = rw past
      of-side Low = (rw past) ∙ ap cost back

  -- A sum over all facts is one over the ceilings' and one over the floors'.
  pub halves : (f : ℕ → ℕ) → sum_of (length claim.certificate.multipliers) f ≡ sum_of nodes f + sum_of nodes (λ g. f (nodes + g))
  halves f =
      let twice : length claim.certificate.multipliers ≡ nodes + nodes = omega (arith, multiplier-count) in
      ap (λ (k : ℕ). sum_of k f) twice ∙ sum-halves nodes nodes f

  -- ---- rules 18.3 and 18.4: a visit is left with nothing

  module _ (n : ℕ) (inside : n < nodes) where
    -- A part of the coefficient of fact f at the node.
    abbrev coefficient : (ℤ → ℕ) → ℕ → ℕ
    coefficient part f = part (coefficient_at nodes claim.facts f n)

    ceilings-above : sum_of nodes (λ f. multiplier f * coefficient above f) ≡ gain side (cost n)
    ceilings-above =
        sum-equal nodes _ (λ f. cond (eqb n f) 1 0 * gain side (cost f)) (λ f h. (λ i. ceiling-multiplier f h i * one f h i) ∙ mul_comm _ _)
        ∙ sum-pick nodes n (λ f. gain side (cost f)) inside
      where
        one : (f : ℕ) → f < nodes → coefficient above f ≡ cond (eqb n f) 1 0
        one f h = ap above (ceiling-coefficient nodes figures f h n inside) ∙ above-one (eqb f n) ∙ ap (λ (t : Bool). cond t 1 0) (either_way f n)

    floors-above : sum_of nodes (λ g. multiplier (nodes + g) * coefficient above (nodes + g)) ≡ 0
    floors-above = sum-nothing nodes _ (λ g h. ap (λ (k : ℕ). multiplier (nodes + g) * k) (none g h) ∙ mul-zero _)
      where
        none : (g : ℕ) → g < nodes → coefficient above (nodes + g) ≡ 0
        none g h = ap above (floor-coefficient nodes figures g h n inside) ∙ above-less (eqb g n)

    ceilings-below : sum_of nodes (λ f. multiplier f * coefficient below f) ≡ 0
    ceilings-below = sum-nothing nodes _ (λ f h. ap (λ (k : ℕ). multiplier f * k) (none f h) ∙ mul-zero _)
      where
        none : (f : ℕ) → f < nodes → coefficient below f ≡ 0
        none f h = ap below (ceiling-coefficient nodes figures f h n inside) ∙ below_one (eqb f n)

    floors-below : sum_of nodes (λ g. multiplier (nodes + g) * coefficient below (nodes + g)) ≡ loss side (cost n)
    floors-below =
        sum-equal nodes _ (λ g. cond (eqb n g) 1 0 * loss side (cost g)) (λ g h. (λ i. floor-multiplier g h i * one g h i) ∙ mul_comm _ _)
        ∙ sum-pick nodes n (λ g. loss side (cost g)) inside
      where
        one : (g : ℕ) → g < nodes → coefficient below (nodes + g) ≡ cond (eqb n g) 1 0
        one g h = ap below (floor-coefficient nodes figures g h n inside) ∙ below_less (eqb g n) ∙ ap (λ (t : Bool). cond t 1 0) (either_way g n)

    pub left-nothing : rise claim n ≡ fall claim n
    left-nothing =
        let once : 1 * cost n ≡ cost n = omega arith in
        let gains : gain side (1 * cost n) ≡ gain side (cost n) = ap (gain side) once in
        let losses : loss side (1 * cost n) ≡ loss side (cost n) = ap (loss side) once in
        let belows = halves (λ f. multiplier f * coefficient below f) in
        let aboves = halves (λ f. multiplier f * coefficient above f) in
        omega (arith, ceilings-above, floors-above, ceilings-below, floors-below)

  -- ---- rules 18.5 and 18.6: sums of ceilings and of floors

  pub no-potential : (n : ℕ) → potential claim n ≡ pos 0
  no-potential n = same-everywhere 0 nodes n (pos 0)

  -- A part of the limit of fact f.
  abbrev limit : (ℤ → ℕ) → ℕ → ℕ
  limit part f = part (limit_of claim.facts f)

  limits-halves : (part : ℤ → ℕ) → weighed_limits claim part ≡ sum_of nodes (λ f. multiplier f * limit part f) + sum_of nodes (λ g. multiplier (nodes + g) * limit part (nodes + g))
  limits-halves part =
      sum-equal (length claim.certificate.multipliers) _ _ (λ f h. ap (λ (k : ℕ). multiplier f * limit part k) (plain f))
      ∙ halves (λ f. multiplier f * limit part f)
    where
      plain : (f : ℕ) → f * 1 + 0 ≡ f
      plain f = omega arith

  limits-above : weighed_limits claim above ≡ sum_of nodes (λ n. get_or figures.ceilings n 0 * gain side (cost n))
  limits-above =
      let ceilings = sum-equal nodes (λ f. multiplier f * limit above f) (λ n. get_or figures.ceilings n 0 * gain side (cost n))
      (λ f h. (λ i. ceiling-multiplier f h i * above (ceiling-limit nodes figures f h i)) ∙ mul_comm _ _) in
      let floors = sum-nothing nodes (λ g. multiplier (nodes + g) * limit above (nodes + g))
      (λ g h. ap (λ (k : ℕ). multiplier (nodes + g) * k) (floor-limit-above nodes figures g h) ∙ mul-zero _) in
      omega (arith, limits-halves above)

  limits-below : weighed_limits claim below ≡ sum_of nodes (λ n. get_or figures.floors n 0 * loss side (cost n))
  limits-below =
      let ceilings = sum-nothing nodes (λ f. multiplier f * limit below f)
      (λ f h. ap (λ (k : ℕ). multiplier f * k) (ap below (ceiling-limit nodes figures f h)) ∙ mul-zero _) in
      let floors = sum-equal nodes (λ g. multiplier (nodes + g) * limit below (nodes + g)) (λ n. get_or figures.floors n 0 * loss side (cost n))
      (λ g h. (λ i. floor-multiplier g h i * floor-limit-below nodes figures g h i) ∙ mul_comm _ _) in
      omega (arith, limits-halves below)

-- On the high side the ceilings times the costs, on the low side the floors.
pub ceilings-bound : (course : Course) (figures : Figures) → highest (claim course figures High) ≡ sum_of course.nodes (λ n. get_or figures.ceilings n 0 * course.cost n)
ceilings-bound course figures =
    let held = claim course figures High in
    let aboves = limits-above course figures High in
    let belows = limits-below course figures High ∙ sum-nothing course.nodes _ (λ n h. mul-zero (get_or figures.floors n 0)) in
    let top = no-potential course figures High (peak held) in
    div-one (top_above held - top_below held) ∙ omega (arith, ap above top, ap below top)

pub floors-bound : (course : Course) (figures : Figures) → lowest (claim course figures Low) ≡ sum_of course.nodes (λ n. get_or figures.floors n 0 * course.cost n)
floors-bound course figures =
    let held = claim course figures Low in
    let aboves = limits-above course figures Low ∙ sum-nothing course.nodes _ (λ n h. mul-zero (get_or figures.ceilings n 0)) in
    let belows = limits-below course figures Low in
    let top = no-potential course figures Low (peak held) in
    div-one (top_below held - top_above held + (1 - 1)) ∙ omega (arith, ap above top, ap below top)
