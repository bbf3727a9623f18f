-- A signed number as the machine reads it back from its bits is that number, and a test of it against 0 tells its sign. What it is below 0 goes by
-- -1 less the number, which has room wherever the number has.
use Prim.Native.Nat.{ℕ, suc, ◌+◌}
use mathlib.Core.Bool.{true, false, true≢false}
use mathlib.Core.Path.{◌≡◌, refl, sym, ap, ◌∙◌, subst}
use native.Mathlib.Omega.{arith}
use borrow.Author.Tests.{le-ltb}
use lib.Dec.{T, ltb}
use lib.IntN.{ℤ, pos, negsuc, nat_abs, ◌-ℤ◌}
use lib.Signed.{lt_z, non_neg}
use mir.Syntax.{w64}
use mir.Val.{to_z, of_z, SFits, Fits}
use mir.ValLaws.{to_z-of_z}
use Rattle.facts.specs.Parts.{above, below}

-- ---- the sign, by a test against 0

not-below : (n : ℕ) → ltb n 0 ≡ true → ⊥
not-below n t = true≢false (sym t ∙ le-ltb n 0 (omega arith))

negative-above : (z : ℤ) → lt_z z (pos 0) ≡ true → 0 ≡ above z
negative-above (pos n) t = absurd (not-below n t)
negative-above (negsuc n) t = refl

positive-below : (z : ℤ) → lt_z z (pos 0) ≡ false → 0 ≡ below z
positive-below (pos n) t = refl
positive-below (negsuc n) t = absurd (true≢false t)

positive-above : (z : ℤ) → SFits w64 z → lt_z z (pos 0) ≡ false → (T (non_neg z) × Fits w64 (nat_abs z)) × (nat_abs z ≡ above z)
positive-above (pos n) f t = ((tt, record { fits = omega (arith, f.sfits) }), refl)
positive-above (negsuc n) f t = absurd (true≢false t)

-- ---- -1 less a number below 0

minus_one : (n : ℕ) → negsuc 0 -ℤ negsuc n ≡ pos n
minus_one n = rw (le-ltb (suc n) 1 (omega arith)) (ap pos (omega arith))

-- What the code asks on its way, and what comes out.
pub record Turned (z : ℤ) : Type 0 where
  pub room : SFits w64 (negsuc 0 -ℤ z)
  pub cast : T (non_neg (to_z w64 (of_z w64 (negsuc 0 -ℤ z)))) × Fits w64 (nat_abs (to_z w64 (of_z w64 (negsuc 0 -ℤ z))))
  pub more : Fits w64 (nat_abs (to_z w64 (of_z w64 (negsuc 0 -ℤ z))) + 1)
  pub is : nat_abs (to_z w64 (of_z w64 (negsuc 0 -ℤ z))) + 1 ≡ below z

turned : (z : ℤ) → SFits w64 z → lt_z z (pos 0) ≡ true → Turned z
turned (pos n) f t = absurd (not-below n t)
turned (negsuc n) f t =
    let room : SFits w64 (negsuc 0 -ℤ negsuc n) = subst (SFits w64) (sym (minus_one n)) (record { sfits = f.sfits }) in
    let back : to_z w64 (of_z w64 (negsuc 0 -ℤ negsuc n)) ≡ pos n = to_z-of_z w64 (negsuc 0 -ℤ negsuc n) room ∙ minus_one n in
    record {
      room = room;
      cast = subst (λ (v : ℤ). T (non_neg v) × Fits w64 (nat_abs v)) (sym back) (tt, record { fits = omega (arith, f.sfits) });
      more = subst (λ (v : ℤ). Fits w64 (nat_abs v + 1)) (sym back) (record { fits = omega (arith, f.sfits) });
      is = ap (λ (v : ℤ). nat_abs v + 1) back ∙ omega arith;
    }

-- ---- the same of what is read back

module _ (z : ℤ) (f : SFits w64 z) where
  abbrev read : ℤ
  read = to_z w64 (of_z w64 z)

  read_is : read ≡ z
  read_is = to_z-of_z w64 z f

  pub read_above : lt_z read (pos 0) ≡ true → 0 ≡ above z
  read_above t = negative-above z (subst (λ (v : ℤ). lt_z v (pos 0) ≡ true) read_is t)

  pub read-not-below : lt_z read (pos 0) ≡ false → 0 ≡ below z
  read-not-below t = positive-below z (subst (λ (v : ℤ). lt_z v (pos 0) ≡ false) read_is t)

  pub read-positive : lt_z read (pos 0) ≡ false → (T (non_neg read) × Fits w64 (nat_abs read)) × (nat_abs read ≡ above z)
  read-positive t =
      subst (λ (v : ℤ). (T (non_neg v) × Fits w64 (nat_abs v)) × (nat_abs v ≡ above z)) (sym read_is)
      (positive-above z f (subst (λ (v : ℤ). lt_z v (pos 0) ≡ false) read_is t))

  read_fits : SFits w64 read
  read_fits = subst (SFits w64) (sym read_is) f

  pub read-turned : lt_z read (pos 0) ≡ true → Turned read
  read-turned t = turned read read_fits t

  pub read_below : lt_z read (pos 0) ≡ true → nat_abs (to_z w64 (of_z w64 (negsuc 0 -ℤ read))) + 1 ≡ below z
  read_below t = (read-turned t).is ∙ ap below read_is
