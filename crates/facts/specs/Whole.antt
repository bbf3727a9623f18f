-- Rules 18.1 to 18.7 once more, with whole numbers as they are: sums of them, a product, what is no more than what, the largest of all; and lists
-- by their places. `in-wholes` in proofs/Whole.antt has it that the sums of two parts (`Parts`), which facts and certificates go by, say the same.
-- No multiplier is below 0 (rule 18.8) where that is asked for.
use Rattle.std.specs.Prelude.{ℕ, zero, suc, ◌+◌, ◌-◌, ◌*◌, ◌/◌, ◌<◌, true, ◌⊎◌, ◌≡◌, ℤ, pos, neg_ℤ, ◌+ℤ◌, ◌-ℤ◌, ◌*ℤ◌, get_or, length, ◌≤ℤ◌}
use Rattle.std.proofs.Math.IntN.{sub_ℕ}
use Rattle.std.specs.Int.Signed.{le_z}
use Rattle.facts.specs.declared.Side.{Side}
use Rattle.facts.specs.declared.Side.TheVariants.{High, Low}
use Rattle.facts.specs.Parts.{above, below, no_more}
use Rattle.facts.specs.Facts.{Facts, KeepsFact, openings}
use Rattle.facts.specs.Certificate.{Claim, rise, fall, start_holds, arrow_holds, peak, top_above, top_below, highest, lowest}

-- f 0 + f 1 + .. + f (n - 1)
abbrev pub whole_sum : ℕ → (ℕ → ℤ) → ℤ
whole_sum zero f = pos 0
whole_sum (suc n) f = whole_sum n f +ℤ f n

-- Rule 18.1: coefficients times visits, added up.
abbrev pub fact_sum : ℕ → Facts → (ℕ → ℕ) → ℕ → ℤ
fact_sum nodes facts visits f = whole_sum nodes (λ n. get_or facts.coefficients (f * nodes + n) (pos 0) *ℤ pos (visits n))

-- Rule 18.3: what costs count on a side.
abbrev pub sided : Side → ℕ → ℤ
sided High cost = pos cost
sided Low cost = neg_ℤ (pos cost)

module _ (claim : Claim) where
  -- Rule 18.2: the multiplier of fact f.
  abbrev pub multiplier_at : ℕ → ℤ
  multiplier_at f = get_or claim.certificate.multipliers f (pos 0)

  -- Rule 18.2: the potential of node n.
  abbrev pub potential_at : ℕ → ℤ
  potential_at n = get_or claim.certificate.potentials n (pos 0)

  -- Rule 18.3: r(n).
  abbrev pub left_with : ℕ → ℤ
  left_with n =
      sided claim.side (claim.certificate.denominator * claim.course.cost n)
      -ℤ whole_sum (length claim.certificate.multipliers) (λ f. multiplier_at f *ℤ get_or claim.facts.coefficients (f * claim.course.nodes + n) (pos 0))

  -- Rule 18.5: Z.
  abbrev pub top : ℤ
  top =
      potential_at (peak claim)
      +ℤ whole_sum (length claim.certificate.multipliers) (λ f. multiplier_at f *ℤ get_or claim.facts.limits f (pos 0))

  -- Rule 18.8: no multiplier is below 0.
  abbrev pub NoneBelow : Type 0
  NoneBelow = (f : ℕ) → f < length claim.certificate.multipliers → pos 0 ≤ℤ multiplier_at f

-- Rule 18.7: fact f rules node n out.
pub record RulesOut (nodes : ℕ) (facts : Facts) (n f : ℕ) : Type 0 where
  pub here : pos 1 ≤ℤ get_or facts.coefficients (f * nodes + n) (pos 0)
  pub limit : get_or facts.limits f (pos 0) ≤ℤ pos 0
  pub none_below : (k : ℕ) → k < nodes → pos 0 ≤ℤ get_or facts.coefficients (f * nodes + k) (pos 0)

pub record InWholes : Type 0 where
  -- a number is its two parts, the one less the other
  pub parts : (z : ℤ) → z ≡ pos (above z) -ℤ pos (below z)
  pub no-more : (a b : ℤ) → no_more a b ≡ le_z a b
  -- rule 18.1: a fact is kept exactly if its sum is no more than its limit
  pub keeps : (nodes : ℕ) (facts : Facts) (visits : ℕ → ℕ) (f : ℕ) → KeepsFact nodes facts visits f → fact_sum nodes facts visits f ≤ℤ get_or facts.limits f (pos 0)
  pub kept : (nodes : ℕ) (facts : Facts) (visits : ℕ → ℕ) (f : ℕ) → fact_sum nodes facts visits f ≤ℤ get_or facts.limits f (pos 0) → KeepsFact nodes facts visits f
  -- rule 18.3: what a visit is left with
  pub left : (claim : Claim) (n : ℕ) → NoneBelow claim → sub_ℕ (rise claim n) (fall claim n) ≡ left_with claim n
  -- rule 18.4: where a certificate holds
  pub starts : (claim : Claim) (n : ℕ) → NoneBelow claim → start_holds claim n ≡ le_z (left_with claim n) (potential_at claim n)
  pub climbs : (claim : Claim) (n t : ℕ) → NoneBelow claim → arrow_holds claim n t ≡ le_z (potential_at claim n +ℤ left_with claim t) (potential_at claim t)
  -- rule 18.5: no marked node has a larger potential than the peak, which is the entry or a marked node itself
  pub peak_most : (claim : Claim) (n : ℕ) → n < claim.course.nodes → claim.course.marked n ≡ true → potential_at claim n ≤ℤ potential_at claim (peak claim)
  pub peak_in : (claim : Claim) → (peak claim ≡ claim.course.entry) ⊎ ((peak claim < claim.course.nodes) × (claim.course.marked (peak claim) ≡ true))
  -- rules 18.5 and 18.6: Z, and the bounds
  pub at_top : (claim : Claim) → NoneBelow claim → sub_ℕ (top_above claim) (top_below claim) ≡ top claim
  pub high : (claim : Claim) → NoneBelow claim → highest claim ≡ above (top claim) / claim.certificate.denominator
  pub low : (claim : Claim)
      → NoneBelow claim
      → lowest claim ≡ (below (top claim) + (claim.certificate.denominator - 1)) / claim.certificate.denominator
  -- rule 18.7: a node is ruled out, and has 0 among the openings, exactly if some fact rules it out
  pub shuts : (nodes : ℕ) (facts : Facts) (n f : ℕ) → n < nodes → f < length facts.limits → RulesOut nodes facts n f → get_or (openings nodes facts) n 0 ≡ 0
  pub opens : (nodes : ℕ) (facts : Facts) (n : ℕ)
      → n < nodes
      → ((f : ℕ) → f < length facts.limits → RulesOut nodes facts n f → ⊥)
      → get_or (openings nodes facts) n 0 ≡ 1
