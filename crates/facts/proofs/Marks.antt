-- Of the marks, only those of the nodes count: two claims that differ in others alone fail at the same node and come to the same bound.
use Prim.Native.Nat.{ℕ, zero, suc, ◌-◌, ◌/◌, ◌+◌, ◌≤◌, ◌<◌}
use mathlib.Core.Bool.{Bool, cond, not, ◌&&◌, ◌||◌}
use mathlib.Core.Path.{◌≡◌, refl}
use native.Mathlib.Omega.{arith}
use lib.Dec.{eqb}
use Rattle.lists.specs.Choice.{every_of}
use Rattle.lists.proofs.Choice.{first-same}
use Rattle.facts.specs.Parts.{above, below, no_more}
use Rattle.facts.specs.Certificate.{Claim, potential, start_holds, arrow_holds, first_failing, peak_to, weighed_limits, highest, lowest}

-- The claim with these marks.
abbrev pub with_marks : Claim → (ℕ → Bool) → Claim
with_marks claim marks =
    record {
      side = claim.side;
      course = record {
        nodes = claim.course.nodes;
        entry = claim.course.entry;
        arrows = claim.course.arrows;
        marked = marks;
        cost = claim.course.cost;
      };
      facts = claim.facts;
      certificate = claim.certificate;
    }

module _ (claim : Claim) (marks : ℕ → Bool) (same : (n : ℕ) → n < claim.course.nodes → claim.course.marked n ≡ marks n) where
  pub failing-same : first_failing claim ≡ first_failing (with_marks claim marks)
  failing-same =
      first-same claim.course.nodes _ _
      (λ n h i. not ((not (eqb n claim.course.entry) || start_holds claim n) && (not (same n h i) || every_of (arrow_holds claim n) (claim.course.arrows n))))

  peak-same : (k : ℕ) → k ≤ claim.course.nodes → peak_to claim k ≡ peak_to (with_marks claim marks) k
  peak-same zero h = refl
  peak-same (suc k) h =
      let before = peak-same k (omega arith) in
      let here = same k (omega arith) in
      λ i. cond (here i && not (no_more (potential claim k) (potential claim (before i)))) k (before i)

  pub highest-same : highest claim ≡ highest (with_marks claim marks)
  highest-same i =
      let top = potential claim (peak-same claim.course.nodes (omega arith) i) in
      (above top + weighed_limits claim above - (below top + weighed_limits claim below)) / claim.certificate.denominator

  pub lowest-same : lowest claim ≡ lowest (with_marks claim marks)
  lowest-same i =
      let top = potential claim (peak-same claim.course.nodes (omega arith) i) in
      (below top + weighed_limits claim below - (above top + weighed_limits claim above) + (claim.certificate.denominator - 1)) / claim.certificate.denominator
