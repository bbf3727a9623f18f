-- The height of a state: how far its ages are from the tightest. It is bounded, and a meeting that changes a state raises it.
use mathlib.Core.Bool.{false, true≢false}
use mathlib.Core.Logic.{⊎_elim}
use mathlib.Core.Path.{◌≡◌, sym, ap, ◌∙◌}
use Prim.Native.Nat.{ℕ, ◌*◌, ◌≤◌, ◌<◌}
use native.Mathlib.Omega.{arith}
use Rattle.lists.proofs.Orders.{below_or}
use Rattle.lists.proofs.Sums.{sum-most, sum_same}
use Rattle.cache.specs.Ages.{Columns, Ages, same_ages, meet_ages, Within, Tighter}
use Rattle.cache.specs.Laws.{height_at, height}
use Rattle.cache.proofs.Rows.{ages-same}
use Rattle.cache.proofs.Order.{tighter-both}
use Rattle.cache.proofs.Meeting.{meet_within, meet_left}

module _ (columns : Columns) where
  pub height-most : (most : ℕ) → ((block : ℕ) → block < columns.count → (columns.must_limit block ≤ most) × (columns.may_limit block ≤ most)) → (a : Ages) → Within columns a → height columns a ≤ columns.count * (2 * most)
  unfolding height
  height-most most limits a w = sum-most columns.count (2 * most) (height_at columns a) (λ block h. omega (arith, limits block h, w.must-most block h))

  -- A state tighter than another of no more height is the same.
  height-same : (a b : Ages) → Within columns a → Within columns b → Tighter columns a b → height columns b ≤ height columns a → a ≡ b
  unfolding height
  height-same a b f g t l =
      let same = sum_same columns.count (height_at columns a) (height_at columns b) (λ block h. omega (arith, t.must-less block h, t.may_more block h)) l in
      tighter-both columns a b f g t
      record {
        must-less = λ block h. omega (arith, same block h, t.must-less block h, t.may_more block h);
        may_more = λ block h. omega (arith, same block h, t.must-less block h, t.may_more block h, f.may-most block h);
      }

  pub height-grows : (a b : Ages) → Within columns a → Within columns b → same_ages (meet_ages columns a b) a ≡ false → height columns a < height columns (meet_ages columns a b)
  height-grows a b f g e = ⊎_elim (λ h. h) stays (below_or (height columns a) (height columns (meet_ages columns a b)))
    where
      stays : height columns (meet_ages columns a b) ≤ height columns a → height columns a < height columns (meet_ages columns a b)
      stays h =
          let same : a ≡ meet_ages columns a b = height-same a (meet_ages columns a b) f (meet_within columns a b f g) (meet_left columns a b) h in
          absurd (true≢false (sym (ages-same a) ∙ ap (λ (c : Ages). same_ages c a) same ∙ e))
