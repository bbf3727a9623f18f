-- What is said of whole numbers by their two parts, what is above 0 and what is below, is so of the numbers themselves. A number is told by its two parts
-- less each other: two numbers for which these agree are the same.
use Prim.Native.Nat.{ℕ, zero, suc, ◌+◌, ◌-◌, ◌*◌, ◌/◌, ◌≤◌, ◌<◌}
use mathlib.Core.Bool.{Bool, true, false, not, cond, ◌&&◌, true≢false}
use mathlib.Core.Logic.{◌⊎◌, inl, inr, ⊎_elim}
use mathlib.Core.Path.{◌≡◌, refl, sym, ap, subst, ◌∙◌}
use native.Mathlib.Nat.{zero-mul, mul-zero}
use native.Mathlib.Omega.{arith}
use borrow.Author.Tests.{ltb-true, ltb-false, lt-ltb, leb-true, le-leb, lt-leb, eqb-true, eq-eqb}
use lib.Dec.{T, eqb, leb, ltb, leb→le, le→leb}
use lib.IntN.{ℤ, pos, negsuc, neg_ℤ, sub_ℕ, ◌+ℤ◌, ◌-ℤ◌, ◌*ℤ◌}
use lib.ListN.{get_or, length}
use lib.Signed.{le_z, ◌≤ℤ◌}
use Rattle.lists.specs.Lists.{sum_of}
use Rattle.lists.specs.Choice.{every}
use Rattle.lists.proofs.Choice.{same_tests, and-true, true-and, every-all, all-every}
use Rattle.lists.proofs.Listed.{get_or-list_of}
use Rattle.lists.proofs.Loops.{any_none, none_any}
use Rattle.lists.proofs.Sums.{sum-equal}
use Rattle.facts.specs.declared.Side.{Side}
use Rattle.facts.specs.declared.Side.TheVariants.{High, Low}
use Rattle.facts.specs.Parts.{above, below, no_more}
use Rattle.facts.specs.Facts.{Facts, coefficient_at, limit_of, KeepsFact, rules_out, ruled_out, openings}
use Rattle.facts.specs.Certificate.{Claim, multiplier_of, gain, loss, scaled_cost, rise, fall, potential, start_holds, arrow_holds}
use Rattle.facts.specs.Certificate.{peak_to, peak, top_above, top_below, highest, lowest}
use Rattle.facts.specs.Whole.{whole_sum, fact_sum, sided, multiplier_at, left_with, top, NoneBelow, RulesOut, InWholes}
use Rattle.facts.proofs.Bounding.{NoMore, peak-above}

-- ---- one number

-- It is a less b.
abbrev Less : ℤ → ℕ → ℕ → Type 0
Less z a b = above z + b ≡ below z + a

-- Numbers that are the same two numbers less each other are the same.
same_whole : (z w : ℤ) → above z + below w ≡ above w + below z → z ≡ w
same_whole (pos m) (pos n) e = let d : m ≡ n = omega arith in ap pos d
same_whole (pos m) (negsuc n) e = absurd (omega arith)
same_whole (negsuc m) (pos n) e = absurd (omega arith)
same_whole (negsuc m) (negsuc n) e = let d : m ≡ n = omega arith in ap negsuc d

less-same : (z w : ℤ) (a b : ℕ) → Less z a b → Less w a b → z ≡ w
less-same z w a b one other = same_whole z w (omega arith)

less-sub : (a b : ℕ) → Less (sub_ℕ a b) a b
less-sub a b = go (ltb a b) refl
  where
    go : (t : Bool) → ltb a b ≡ t → Less (cond t (negsuc (b - suc a)) (pos (a - b))) a b
    go true e = let h = ltb-true a b e in omega arith
    go false e = let h = ltb-false a b e in omega arith

less-sum : (z w : ℤ) → Less (z +ℤ w) (above z + above w) (below z + below w)
less-sum (pos a) (pos b) = omega arith
less-sum (pos a) (negsuc b) = let d = less-sub a (suc b) in omega arith
less-sum (negsuc a) (pos b) = let d = less-sub b (suc a) in omega arith
less-sum (negsuc a) (negsuc b) = omega arith

-- A number turned round: its parts change places.
above-turned : (z : ℤ) → above (neg_ℤ z) ≡ below z
above-turned (pos zero) = refl
above-turned (pos (suc n)) = refl
above-turned (negsuc n) = refl

below-turned : (z : ℤ) → below (neg_ℤ z) ≡ above z
below-turned (pos zero) = refl
below-turned (pos (suc n)) = refl
below-turned (negsuc n) = refl

-- A product with a number that is not below 0: each part is multiplied.
above-times : (z : ℤ) (k : ℕ) → above (z *ℤ pos k) ≡ above z * k
above-times (pos n) k = refl
above-times (negsuc n) k = above-turned (pos (suc n * k)) ∙ sym (zero-mul k)

below-times : (z : ℤ) (k : ℕ) → below (z *ℤ pos k) ≡ below z * k
below-times (pos n) k = sym (zero-mul k)
below-times (negsuc n) k = below-turned (pos (suc n * k))

above-product : (m z : ℤ) → pos 0 ≤ℤ m → above (m *ℤ z) ≡ above m * above z
above-product (pos k) (pos n) h = refl
above-product (pos k) (negsuc n) h = above-turned (pos (k * suc n)) ∙ sym (mul-zero k)
above-product (negsuc k) z h = absurd h.le

below-product : (m z : ℤ) → pos 0 ≤ℤ m → below (m *ℤ z) ≡ above m * below z
below-product (pos k) (pos n) h = sym (mul-zero k)
below-product (pos k) (negsuc n) h = below-turned (pos (k * suc n))
below-product (negsuc k) z h = absurd h.le

-- ---- order

same-order : (a b c d : ℕ) → (a ≤ b → c ≤ d) → (c ≤ d → a ≤ b) → leb a b ≡ leb c d
same-order a b c d to back = same_tests (leb a b) (leb c d) (λ e. le-leb c d (to (leb-true a b e))) (λ e. le-leb a b (back (leb-true c d e)))

no-more-same : (a b : ℤ) → no_more a b ≡ le_z a b
no-more-same (pos a) (pos b) = same-order (a + 0) (b + 0) a b (λ h. omega arith) (λ h. omega arith)
no-more-same (pos a) (negsuc b) = lt-leb (a + suc b) (0 + 0) (omega arith)
no-more-same (negsuc a) (pos b) = le-leb (0 + 0) (b + suc a) (omega arith)
no-more-same (negsuc a) (negsuc b) = same-order (0 + suc b) (0 + suc a) b a (λ h. omega arith) (λ h. omega arith)

-- The order of numbers is that of any pairs that they are the one less the other of.
less-order : (z w : ℤ) (a b : ℕ) → (above z + below w ≤ above w + below z → a ≤ b) → (a ≤ b → above z + below w ≤ above w + below z) → leb a b ≡ le_z z w
less-order z w a b to back = same-order a b (above z + below w) (above w + below z) back to ∙ no-more-same z w

-- ---- sums

less-summed : (n : ℕ) (f : ℕ → ℤ) → Less (whole_sum n f) (sum_of n (λ i. above (f i))) (sum_of n (λ i. below (f i)))
less-summed zero f = refl
less-summed (suc n) f = omega (arith, less-summed n f, less-sum (whole_sum n f) (f n))

-- ---- rule 18.1

module _ (nodes : ℕ) (facts : Facts) (visits : ℕ → ℕ) (f : ℕ) where
  abbrev sum : ℤ
  sum = fact_sum nodes facts visits f

  abbrev limit : ℤ
  limit = limit_of facts f

  -- A part of the coefficients times the visits.
  abbrev sum_by : (ℤ → ℕ) → ℕ
  sum_by part = sum_of nodes (λ n. part (coefficient_at nodes facts f n) * visits n)

  less-facts : Less sum (sum_by above) (sum_by below)
  less-facts =
      let aboves = sum-equal nodes _ _ (λ n h. above-times (coefficient_at nodes facts f n) (visits n)) in
      let belows = sum-equal nodes _ _ (λ n h. below-times (coefficient_at nodes facts f n) (visits n)) in
      omega (arith, less-summed nodes (λ n. coefficient_at nodes facts f n *ℤ pos (visits n)))

  -- The fact by its parts, as a test.
  keeps-told : leb (sum_by above + below limit) (above limit + sum_by below) ≡ le_z sum limit
  keeps-told = let less = less-facts in less-order sum limit (sum_by above + below limit) (above limit + sum_by below) (λ h. omega arith) (λ h. omega arith)

  keeps : KeepsFact nodes facts visits f → sum ≤ℤ limit
  keeps k = record { le = subst T (sym (le-leb (sum_by above + below limit) (above limit + sum_by below) k) ∙ keeps-told) tt }

  kept : sum ≤ℤ limit → KeepsFact nodes facts visits f
  kept k = leb→le (sum_by above + below limit) (above limit + sum_by below) (subst T (sym keeps-told) k.le)

-- ---- rules 18.3 to 18.6

above-sided : (side : Side) (k : ℕ) → above (sided side k) ≡ gain side k
above-sided High k = refl
above-sided Low k = above-turned (pos k)

below-sided : (side : Side) (k : ℕ) → below (sided side k) ≡ loss side k
below-sided High k = refl
below-sided Low k = below-turned (pos k)

-- What is a less b, as far as that is above 0, and as far as it is below.
above-less : (z : ℤ) (a b : ℕ) → Less z a b → a - b ≡ above z
above-less (pos n) a b e = omega arith
above-less (negsuc n) a b e = omega arith

below_less : (z : ℤ) (a b : ℕ) → Less z a b → b - a ≡ below z
below_less (pos n) a b e = omega arith
below_less (negsuc n) a b e = omega arith

module _ (claim : Claim) (none : NoneBelow claim) where
  abbrev count : ℕ
  count = length claim.certificate.multipliers

  -- Multipliers times numbers, whole and by parts.
  less-weighed : (number : ℕ → ℤ) → Less (whole_sum count (λ f. multiplier_at claim f *ℤ number f))
      (sum_of count (λ f. multiplier_of claim.certificate f * above (number f))) (sum_of count (λ f. multiplier_of claim.certificate f * below (number f)))
  less-weighed number =
      let aboves = sum-equal count _ _ (λ f h. above-product (multiplier_at claim f) (number f) (none f h)) in
      let belows = sum-equal count _ _ (λ f h. below-product (multiplier_at claim f) (number f) (none f h)) in
      omega (arith, less-summed count (λ f. multiplier_at claim f *ℤ number f))

  less-left : (n : ℕ) → Less (left_with claim n) (rise claim n) (fall claim n)
  less-left n =
      let weighed = whole_sum count (λ f. multiplier_at claim f *ℤ coefficient_at claim.course.nodes claim.facts f n) in
      let counted = sided claim.side (scaled_cost claim n) in
      omega (
        arith,
        less-sum counted (neg_ℤ weighed),
        above-turned weighed,
        below-turned weighed,
        above-sided claim.side (scaled_cost claim n),
        below-sided claim.side (scaled_cost claim n),
        less-weighed (λ f. coefficient_at claim.course.nodes claim.facts f n),
      )

  left-same : (n : ℕ) → sub_ℕ (rise claim n) (fall claim n) ≡ left_with claim n
  left-same n = less-same (sub_ℕ (rise claim n) (fall claim n)) (left_with claim n) (rise claim n) (fall claim n) (less-sub (rise claim n) (fall claim n)) (less-left n)

  starts-same : (n : ℕ) → start_holds claim n ≡ le_z (left_with claim n) (potential claim n)
  starts-same n =
      let less = less-left n in
      less-order (left_with claim n) (potential claim n) (rise claim n + below (potential claim n)) (above (potential claim n) + fall claim n) (λ h. omega arith) (λ h. omega arith)

  climbs-same : (n t : ℕ) → arrow_holds claim n t ≡ le_z (potential claim n +ℤ left_with claim t) (potential claim t)
  climbs-same n t =
      let less = less-left t in
      let both = less-sum (potential claim n) (left_with claim t) in
      less-order (potential claim n +ℤ left_with claim t) (potential claim t)
      (above (potential claim n) + rise claim t + below (potential claim t)) (above (potential claim t) + below (potential claim n) + fall claim t)
      (λ h. omega arith) (λ h. omega arith)

  less-top : Less (top claim) (top_above claim) (top_below claim)
  less-top =
      let limits = whole_sum count (λ f. multiplier_at claim f *ℤ limit_of claim.facts f) in
      omega (
        arith,
        less-sum (potential claim (peak claim)) limits,
        less-weighed (limit_of claim.facts),
        sum-equal count (λ f. multiplier_of claim.certificate f * above (limit_of claim.facts f)) _ (λ f h. plain above f),
        sum-equal count (λ f. multiplier_of claim.certificate f * below (limit_of claim.facts f)) _ (λ f h. plain below f),
      )
    where
      plain : (part : ℤ → ℕ) (f : ℕ) → multiplier_of claim.certificate f * part (limit_of claim.facts f) ≡ multiplier_of claim.certificate f * part (limit_of claim.facts (f * 1 + 0))
      plain part f = let e : f ≡ f * 1 + 0 = omega arith in ap (λ (k : ℕ). multiplier_of claim.certificate f * part (limit_of claim.facts k)) e

  top-same : sub_ℕ (top_above claim) (top_below claim) ≡ top claim
  top-same = less-same (sub_ℕ (top_above claim) (top_below claim)) (top claim) (top_above claim) (top_below claim) (less-sub (top_above claim) (top_below claim)) less-top

  highest-same : highest claim ≡ above (top claim) / claim.certificate.denominator
  highest-same = ap (λ (k : ℕ). k / claim.certificate.denominator) (above-less (top claim) (top_above claim) (top_below claim) less-top)

  lowest-same : lowest claim ≡ (below (top claim) + (claim.certificate.denominator - 1)) / claim.certificate.denominator
  lowest-same =
      ap (λ (k : ℕ). (k + (claim.certificate.denominator - 1)) / claim.certificate.denominator) (below_less (top claim) (top_above claim) (top_below claim) less-top)

-- ---- the peak

no-more-le : (a b : ℤ) → NoMore a b → a ≤ℤ b
no-more-le a b h = record { le = subst T (sym (sym (no-more-same a b) ∙ le-leb (above a + below b) (above b + below a) h)) tt }

-- A node is the entry, or a marked one of the first n.
abbrev InFirst : Claim → ℕ → ℕ → Type 0
InFirst claim n at = (at ≡ claim.course.entry) ⊎ ((at < n) × (claim.course.marked at ≡ true))

in-more : (claim : Claim) (n at : ℕ) → InFirst claim n at → InFirst claim (suc n) at
in-more claim n at = ⊎_elim (λ (q : at ≡ claim.course.entry). inl q) (λ (q : (at < n) × (claim.course.marked at ≡ true)). inr (omega (arith, q.0), q.1))

peak-to-in : (claim : Claim) (n : ℕ) → InFirst claim n (peak_to claim n)
peak-to-in claim zero = inl refl
peak-to-in claim (suc n) = go (claim.course.marked n) refl (no_more (potential claim n) (potential claim (peak_to claim n))) (peak-to-in claim n)
  where
    go : (m : Bool) → claim.course.marked n ≡ m → (t : Bool) → InFirst claim n (peak_to claim n) → InFirst claim (suc n) (cond (m && not t) n (peak_to claim n))
    go true e false before = inr (omega arith, e)
    go true e true before = in-more claim n (peak_to claim n) before
    go false e t before = in-more claim n (peak_to claim n) before

-- ---- nodes that are ruled out

-- A number from 1 on, one at most 0, and one from 0 on, by their parts.
positive-above : (z : ℤ) → pos 1 ≤ℤ z → 0 < above z
positive-above (pos n) h = leb→le 1 n h.le
positive-above (negsuc n) h = absurd h.le

above-positive : (z : ℤ) → 0 < above z → pos 1 ≤ℤ z
above-positive (pos n) h = record { le = le→leb 1 n h }
above-positive (negsuc n) h = absurd (omega arith)

negative-above : (z : ℤ) → z ≤ℤ pos 0 → above z ≡ 0
negative-above (pos n) h = omega (arith, leb→le n 0 h.le)
negative-above (negsuc n) h = refl

above-negative : (z : ℤ) → above z ≡ 0 → z ≤ℤ pos 0
above-negative (pos n) h = record { le = le→leb n 0 (omega arith) }
above-negative (negsuc n) h = record { le = tt }

positive-below : (z : ℤ) → pos 0 ≤ℤ z → below z ≡ 0
positive-below (pos n) h = refl
positive-below (negsuc n) h = absurd h.le

below-positive : (z : ℤ) → below z ≡ 0 → pos 0 ≤ℤ z
below-positive (pos n) h = record { le = le→leb 0 n (omega arith) }
below-positive (negsuc n) h = absurd (omega arith)

module _ (nodes : ℕ) (facts : Facts) (n : ℕ) where
  test-passes : (f : ℕ) → RulesOut nodes facts n f → rules_out nodes facts n f ≡ true
  test-passes f out =
      true-and _ _ (lt-ltb 0 _ (positive-above _ out.here))
      (true-and _ _ (eq-eqb _ 0 (negative-above _ out.limit)) (all-every nodes (λ k. eqb (below (coefficient_at nodes facts f k)) 0) (λ k h. eq-eqb _ 0 (positive-below _ (out.none_below k h)))))

  passes-test : (f : ℕ) → rules_out nodes facts n f ≡ true → RulesOut nodes facts n f
  passes-test f e =
      let both = and-true (ltb 0 (above (coefficient_at nodes facts f n))) _ e in
      let rest = and-true (eqb (above (limit_of facts f)) 0) (every nodes (λ k. eqb (below (coefficient_at nodes facts f k)) 0)) both.1 in
      record {
        here = above-positive (coefficient_at nodes facts f n) (ltb-true 0 (above (coefficient_at nodes facts f n)) both.0);
        limit = above-negative (limit_of facts f) (eqb-true (above (limit_of facts f)) 0 rest.0);
        none_below = λ k h. below-positive (coefficient_at nodes facts f k) (eqb-true (below (coefficient_at nodes facts f k)) 0 (every-all nodes (λ j. eqb (below (coefficient_at nodes facts f j)) 0) rest.1 k h));
      }

  opening-is : n < nodes → get_or (openings nodes facts) n 0 ≡ cond (ruled_out nodes facts n) 0 1
  opening-is h = get_or-list_of nodes (λ k. cond (ruled_out nodes facts k) 0 1) 0 n h

  shut : (f : ℕ) → n < nodes → f < length facts.limits → RulesOut nodes facts n f → get_or (openings nodes facts) n 0 ≡ 0
  shut f h inside out = opening-is h ∙ ap (λ (t : Bool). cond t 0 1) (go (ruled_out nodes facts n) refl)
    where
      go : (t : Bool) → ruled_out nodes facts n ≡ t → ruled_out nodes facts n ≡ true
      go true e = e
      go false e = absurd (true≢false (sym (test-passes f out) ∙ any_none (length facts.limits) (rules_out nodes facts n) e f inside))

  opened : n < nodes → ((f : ℕ) → f < length facts.limits → RulesOut nodes facts n f → ⊥) → get_or (openings nodes facts) n 0 ≡ 1
  opened h none = opening-is h ∙ ap (λ (t : Bool). cond t 0 1) (none_any (length facts.limits) (rules_out nodes facts n) (λ f inside. go f inside (rules_out nodes facts n f) refl))
    where
      go : (f : ℕ) → f < length facts.limits → (t : Bool) → rules_out nodes facts n f ≡ t → rules_out nodes facts n f ≡ false
      go f inside true e = absurd (none f inside (passes-test f e))
      go f inside false e = e

pub in-wholes : InWholes
in-wholes =
    record {
      parts = λ z. same_whole z (pos (above z) -ℤ pos (below z)) (omega (arith, less-sum (pos (above z)) (neg_ℤ (pos (below z))), above-turned (pos (below z)), below-turned (pos (below z))));
      no-more = no-more-same;
      keeps = keeps;
      kept = kept;
      left = λ claim n none. left-same claim none n;
      starts = λ claim n none. starts-same claim none n;
      climbs = λ claim n t none. climbs-same claim none n t;
      peak_most = λ claim n h marked.
          no-more-le (potential claim n) (potential claim (peak claim)) (peak-above claim claim.course.nodes n h marked);
      peak_in = λ claim. peak-to-in claim claim.course.nodes;
      at_top = top-same;
      high = highest-same;
      low = lowest-same;
      shuts = λ nodes facts n f h inside out. shut nodes facts n f h inside out;
      opens = λ nodes facts n h none. opened nodes facts n h none;
    }
