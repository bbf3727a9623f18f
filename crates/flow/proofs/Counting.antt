-- A loop that makes passes and counts them against an allowance: where it begins, a pass that changes something, one that changes
-- nothing, and an allowance that is spent.
use Prim.Native.Nat.{ℕ, suc, ◌+◌, ◌-◌, ◌≤◌, ◌<◌}
use mathlib.Core.Bool.{true, false}
use mathlib.Core.Path.{◌≡◌, ◌∙◌}
use native.Mathlib.Numerals.{add-one}
use native.Mathlib.Omega.{arith}
use Rattle.flow.proofs.Ending.{settle_from-done}
use Rattle.flow.specs.Flow.{Flow}
use Rattle.flow.specs.Underway.{SettlesFrom}
use Rattle.flow.specs.Pass.{settled, spent, pass, after_passes, settle_from, settle}

module _ (F : Flow) (allowance : ℕ) where
  pub counting-begins : SettlesFrom F allowance 0
  unfolding settle after_passes
  counting-begins = let e : allowance - 0 ≡ allowance = omega arith in rw e

  module _ (made : ℕ) (left : made < allowance) (counted : SettlesFrom F allowance made) where
    one-pass : settle F allowance ≡ settle_from F (allowance - (made + 1)) (made + 1) (after_passes F (made + 1)) (pass F (after_passes F made)).changed
    unfolding settle_from after_passes
    one-pass =
        let e : allowance - made ≡ suc (allowance - (made + 1)) = omega arith in
        counted ∙ rw (e, add-one)

    pub counting-goes : (pass F (after_passes F made)).changed ≡ true → SettlesFrom F allowance (made + 1)
    counting-goes e = one-pass ∙ rw e

    pub counting-settles : (pass F (after_passes F made)).changed ≡ false → settle F allowance ≡ settled (made + 1) (after_passes F (made + 1))
    counting-settles e = one-pass ∙ rw e (settle_from-done F (allowance - (made + 1)) (made + 1) (after_passes F (made + 1)))

  pub counting-spends : (made : ℕ) → allowance ≤ made → SettlesFrom F allowance made → settle F allowance ≡ spent
  unfolding settle_from
  counting-spends made h counted = let e : allowance - made ≡ 0 = omega arith in counted ∙ rw e
