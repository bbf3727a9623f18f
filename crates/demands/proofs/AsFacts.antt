-- Floors and ceilings as facts: what the lists of their coefficients, limits and multipliers have at each place, and what sums of them come to. The
-- first N facts are those of the ceilings, the next N those of the floors.
use Prim.Native.Nat.{ℕ, zero, suc, ◌+◌, ◌-◌, ◌*◌, ◌/◌, ◌%◌, ◌≤◌, ◌<◌}
use mathlib.Core.Bool.{Bool, true, false, cond, true≢false}
use mathlib.Core.Logic.{⊎_elim}
use mathlib.Core.Path.{◌≡◌, refl, sym, ap, subst, ◌∙◌}
use native.Mathlib.Nat.{mul-le-mul_right, mul-add-div_right, div-eq_of_lt, mul-add-mod_self_right, mod-eq_of_lt, zero-mul}
use native.Mathlib.Omega.{arith}
use borrow.Author.Tests.{eqb-true, eq-eqb, ne_eqb, ltb-true, lt-ltb, le-ltb}
use lib.Dec.{eqb, ltb}
use lib.IntN.{pos, negsuc, neg_ℤ}
use lib.ListN.{get_or, length}
use Rattle.lists.specs.Lists.{sum_of}
use Rattle.lists.proofs.Choice.{and-true, true-and, all-every}
use Rattle.lists.proofs.Listed.{length-list_of, get_or-list_of}
use Rattle.lists.proofs.Loops.{any_some, some-any}
use Rattle.lists.proofs.Orders.{same_or, below_or}
use Rattle.lists.proofs.Sums.{sum-equal, sum-pick}
use Rattle.facts.specs.Parts.{above, below}
use Rattle.facts.specs.Facts.{Facts, coefficient_at, limit_of, KeepsFact, KeepsFacts, rules_out, ruled_out, openings}
use Rattle.facts.proofs.Sums.{sum-zero}
use Rattle.costs.specs.Costs.{Figures}
use Rattle.demands.specs.AsFacts.{visit_coefficient, visit_limit, visit_facts}

-- ---- a sum of nothing

pub sum-nothing : (n : ℕ) (f : ℕ → ℕ) → ((i : ℕ) → i < n → f i ≡ 0) → sum_of n f ≡ 0
sum-nothing n f none = sum-equal n f (λ i. 0) none ∙ sum-zero n

-- ---- a number below 0

above-negative : (k : ℕ) → above (neg_ℤ (pos k)) ≡ 0
above-negative zero = refl
above-negative (suc k) = refl

below-negative : (k : ℕ) → below (neg_ℤ (pos k)) ≡ k
below-negative zero = refl
below-negative (suc k) = refl

-- ---- a coefficient, by its parts

pub above-one : (t : Bool) → above (cond t (pos 1) (pos 0)) ≡ cond t 1 0
above-one true = refl
above-one false = refl

pub below_one : (t : Bool) → below (cond t (pos 1) (pos 0)) ≡ 0
below_one true = refl
below_one false = refl

pub above-less : (t : Bool) → above (cond t (negsuc 0) (pos 0)) ≡ 0
above-less true = refl
above-less false = refl

pub below_less : (t : Bool) → below (cond t (negsuc 0) (pos 0)) ≡ cond t 1 0
below_less true = refl
below_less false = refl

module _ (nodes : ℕ) (figures : Figures) where
  abbrev ceiling : ℕ → ℕ
  ceiling n = get_or figures.ceilings n 0

  abbrev floor : ℕ → ℕ
  floor n = get_or figures.floors n 0

  abbrev facts : Facts
  facts = visit_facts nodes figures

  -- ---- what stands at each place

  pub fact-count : length facts.limits ≡ 2 * nodes
  fact-count = length-list_of (2 * nodes) (visit_limit nodes figures)

  pub coefficient-is : (f n : ℕ) → f < 2 * nodes → n < nodes → coefficient_at nodes facts f n ≡ visit_coefficient nodes f n
  coefficient-is f n h inside =
      let positive : 0 < nodes = omega arith in
      let row = mul-le-mul_right nodes h in
      let fact : (f * nodes + n) / nodes ≡ f = mul-add-div_right positive f n ∙ ap (λ (k : ℕ). f + k) (div-eq_of_lt inside) ∙ omega arith in
      let node : (f * nodes + n) % nodes ≡ n = mul-add-mod_self_right f nodes n ∙ mod-eq_of_lt inside in
      get_or-list_of (2 * nodes * nodes) (λ i. visit_coefficient nodes (i / nodes) (i % nodes)) (pos 0) (f * nodes + n) (omega arith)
      ∙ (λ i. visit_coefficient nodes (fact i) (node i))

  pub limit_is : (f : ℕ) → f < 2 * nodes → limit_of facts f ≡ visit_limit nodes figures f
  limit_is f h = get_or-list_of (2 * nodes) (visit_limit nodes figures) (pos 0) f h

  -- The fact of a ceiling.
  module _ (f : ℕ) (h : f < nodes) where
    pub ceiling-coefficient : (n : ℕ) → n < nodes → coefficient_at nodes facts f n ≡ cond (eqb f n) (pos 1) (pos 0)
    ceiling-coefficient n inside =
        coefficient-is f n (omega arith) inside ∙ ap (λ (t : Bool). cond (eqb f n) (pos 1) (cond t (negsuc 0) (pos 0))) (ne_eqb f (nodes + n) (λ e. omega arith))

    pub ceiling-limit : limit_of facts f ≡ pos (ceiling f)
    ceiling-limit = limit_is f (omega arith) ∙ (rw (lt-ltb f nodes h))

  -- The fact of a floor.
  module _ (g : ℕ) (h : g < nodes) where
    pub floor-coefficient : (n : ℕ) → n < nodes → coefficient_at nodes facts (nodes + g) n ≡ cond (eqb g n) (negsuc 0) (pos 0)
    floor-coefficient n inside =
        coefficient-is (nodes + g) n (omega arith) inside ∙ (rw (ne_eqb (nodes + g) n (λ e. omega arith))) ∙ ap (λ (t : Bool). cond t (negsuc 0) (pos 0)) shifted
      where
        shifted : eqb (nodes + g) (nodes + n) ≡ eqb g n
        shifted =
            ⊎_elim (λ (e : g ≡ n). eq-eqb (nodes + g) (nodes + n) (omega arith) ∙ sym (eq-eqb g n e))
            (λ (e : g ≡ n → ⊥). ne_eqb (nodes + g) (nodes + n) (λ q. e (omega arith)) ∙ sym (ne_eqb g n e))
            (same_or g n)

    floor-limit : limit_of facts (nodes + g) ≡ neg_ℤ (pos (floor g))
    floor-limit =
        let past = le-ltb (nodes + g) nodes (omega arith) in
        let back : nodes + g - nodes ≡ g = omega arith in
        limit_is (nodes + g) (omega arith) ∙ (λ i. cond (past i) (pos (ceiling (nodes + g))) (neg_ℤ (pos (floor (back i)))))

    pub floor-limit-above : above (limit_of facts (nodes + g)) ≡ 0
    floor-limit-above = ap above floor-limit ∙ above-negative (floor g)

    pub floor-limit-below : below (limit_of facts (nodes + g)) ≡ floor g
    floor-limit-below = ap below floor-limit ∙ below-negative (floor g)

  -- ---- a walk keeps them exactly if it keeps the floors and the ceilings

  module _ (visits : ℕ → ℕ) where
    -- Of a sum by coefficients, one node's visits are left, or nothing.
    ceiling-above : (f : ℕ) → f < nodes → sum_of nodes (λ n. above (coefficient_at nodes facts f n) * visits n) ≡ visits f
    ceiling-above f h =
        sum-equal nodes _ _ (λ n inside. ap (λ (k : ℕ). k * visits n) (ap above (ceiling-coefficient f h n inside) ∙ above-one (eqb f n))) ∙ sum-pick nodes f visits h

    ceiling-below : (f : ℕ) → f < nodes → sum_of nodes (λ n. below (coefficient_at nodes facts f n) * visits n) ≡ 0
    ceiling-below f h =
        sum-nothing nodes _ (λ n inside. ap (λ (k : ℕ). k * visits n) (ap below (ceiling-coefficient f h n inside) ∙ below_one (eqb f n)) ∙ zero-mul (visits n))

    floor-above : (g : ℕ) → g < nodes → sum_of nodes (λ n. above (coefficient_at nodes facts (nodes + g) n) * visits n) ≡ 0
    floor-above g h =
        sum-nothing nodes _ (λ n inside. ap (λ (k : ℕ). k * visits n) (ap above (floor-coefficient g h n inside) ∙ above-less (eqb g n)) ∙ zero-mul (visits n))

    floor-below : (g : ℕ) → g < nodes → sum_of nodes (λ n. below (coefficient_at nodes facts (nodes + g) n) * visits n) ≡ visits g
    floor-below g h =
        sum-equal nodes _ _ (λ n inside. ap (λ (k : ℕ). k * visits n) (ap below (floor-coefficient g h n inside) ∙ below_less (eqb g n))) ∙ sum-pick nodes g visits h

    ceiling-kept : (f : ℕ) → f < nodes → visits f ≤ ceiling f → KeepsFact nodes facts visits f
    ceiling-kept f h most =
        omega (arith, ceiling-above f h, ap above (ceiling-limit f h), ap below (ceiling-limit f h))

    kept-ceiling : (f : ℕ) → f < nodes → KeepsFact nodes facts visits f → visits f ≤ ceiling f
    kept-ceiling f h keeps =
        omega (arith, ceiling-above f h, ceiling-below f h, ap above (ceiling-limit f h), ap below (ceiling-limit f h))

    floor-kept : (g : ℕ) → g < nodes → floor g ≤ visits g → KeepsFact nodes facts visits (nodes + g)
    floor-kept g h least =
        omega (arith, floor-above g h, floor-below g h, floor-limit-below g h)

    kept-floor : (g : ℕ) → g < nodes → KeepsFact nodes facts visits (nodes + g) → floor g ≤ visits g
    kept-floor g h keeps =
        omega (arith, floor-below g h, floor-limit-above g h, floor-limit-below g h)

    pub all-kept : ((n : ℕ) → n < nodes → floor n ≤ visits n) → ((n : ℕ) → n < nodes → visits n ≤ ceiling n) → KeepsFacts nodes facts visits
    all-kept least most f h = ⊎_elim (λ (l : f < nodes). ceiling-kept f l (most f l)) past (below_or f nodes)
      where
        past : nodes ≤ f → KeepsFact nodes facts visits f
        past l =
            let inside : f - nodes < nodes = omega (arith, fact-count) in
            let is : nodes + (f - nodes) ≡ f = omega arith in
            subst (KeepsFact nodes facts visits) is (floor-kept (f - nodes) inside (least (f - nodes) inside))

    pub kept-floors : KeepsFacts nodes facts visits → (n : ℕ) → n < nodes → floor n ≤ visits n
    kept-floors keeps n h = kept-floor n h (keeps (nodes + n) (omega (arith, fact-count)))

    pub kept-ceilings : KeepsFacts nodes facts visits → (n : ℕ) → n < nodes → visits n ≤ ceiling n
    kept-ceilings keeps n h = kept-ceiling n h (keeps n (omega (arith, fact-count)))

  -- ---- rule 18.7: a node is ruled out exactly if its ceiling is 0

  ceiling-rules : (n : ℕ) → n < nodes → ceiling n ≡ 0 → ruled_out nodes facts n ≡ true
  ceiling-rules n h none =
      some-any (length facts.limits) (rules_out nodes facts n) n (omega (arith, fact-count))
      (true-and _ _ (lt-ltb 0 (above (coefficient_at nodes facts n n)) (omega (arith, ap above (ceiling-coefficient n h n h) ∙ above-one (eqb n n) ∙ ap (λ (t : Bool). cond t 1 0) (eq-eqb n n refl))))
      (true-and _ _ (eq-eqb _ 0 (ap above (ceiling-limit n h) ∙ none)) (all-every nodes _ (λ k inside. eq-eqb _ 0 (ap below (ceiling-coefficient n h k inside) ∙ below_one (eqb n k))))))

  -- A fact that rules a node out is that of its ceiling.
  rules-ceiling : (n : ℕ) → n < nodes → (f : ℕ) → f < 2 * nodes → rules_out nodes facts n f ≡ true → ceiling n ≡ 0
  rules-ceiling n h f few out =
      let both = and-true (ltb 0 (above (coefficient_at nodes facts f n))) _ out in
      let positive = ltb-true 0 (above (coefficient_at nodes facts f n)) both.0 in
      let limit = eqb-true (above (limit_of facts f)) 0 (and-true (eqb (above (limit_of facts f)) 0) _ both.1).0 in
      ⊎_elim (λ (l : f < nodes). first l positive limit) (λ (l : nodes ≤ f). absurd (past l positive)) (below_or f nodes)
    where
      first : f < nodes → 0 < above (coefficient_at nodes facts f n) → above (limit_of facts f) ≡ 0 → ceiling n ≡ 0
      first l positive limit =
          ⊎_elim (λ (e : f ≡ n). ap ceiling (sym e) ∙ sym (ap above (ceiling-limit f l)) ∙ limit)
          (λ (e : f ≡ n → ⊥). absurd (omega (arith, ap above (ceiling-coefficient f l n h) ∙ above-one (eqb f n) ∙ ap (λ (t : Bool). cond t 1 0) (ne_eqb f n e))))
          (same_or f n)

      past : nodes ≤ f → 0 < above (coefficient_at nodes facts f n) → ⊥
      past l positive =
          let inside : f - nodes < nodes = omega arith in
          let is : nodes + (f - nodes) ≡ f = omega arith in
          omega (arith, ap (λ (k : ℕ). above (coefficient_at nodes facts k n)) (sym is) ∙ ap above (floor-coefficient (f - nodes) inside n h) ∙ above-less (eqb (f - nodes) n))

  above_zero : (k : ℕ) → (k ≡ 0 → ⊥) → 0 < k
  above_zero k some = ⊎_elim (λ (l : 0 < k). l) (λ (l : k ≤ 0). absurd (some (omega arith))) (below_or 0 k)

  pub opened : (n : ℕ) → n < nodes → ltb 0 (get_or (openings nodes facts) n 0) ≡ ltb 0 (ceiling n)
  opened n h = ap (ltb 0) (get_or-list_of nodes (λ k. cond (ruled_out nodes facts k) 0 1) 0 n h) ∙ go (ruled_out nodes facts n) refl
    where
      go : (t : Bool) → ruled_out nodes facts n ≡ t → ltb 0 (cond t 0 1) ≡ ltb 0 (ceiling n)
      go true out =
          let some = any_some (length facts.limits) (rules_out nodes facts n) out in
          sym (le-ltb 0 (ceiling n) (omega (arith, rules-ceiling n h some.0 (omega (arith, some.1, fact-count)) some.2)))
      go false clear = sym (lt-ltb 0 (ceiling n) (above_zero (ceiling n) (λ e. true≢false (sym (ceiling-rules n h e) ∙ clear))))
