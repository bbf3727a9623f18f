-- `Tighter` is an order of states.
use mathlib.Core.List.{List}
use mathlib.Core.Path.{◌≡◌, sym, ◌∙◌}
use Prim.Native.Nat.{ℕ, ◌≤◌, ◌<◌}
use native.Mathlib.Omega.{arith}
use lib.ListN.{length}
use lib.Seq.{ext_get_or}
use Rattle.cache.specs.Ages.{Columns, Ages, age_of, Within, Tighter}

-- Two rows of one length, each no more than the other, are the same.
rows_both : (count : ℕ) (xs ys : List ℕ) → length xs ≡ count → length ys ≡ count → ((block : ℕ) → block < count → age_of xs block ≤ age_of ys block) → ((block : ℕ) → block < count → age_of ys block ≤ age_of xs block) → xs ≡ ys
rows_both count xs ys k l p q =
    ext_get_or 0 xs ys (k ∙ sym l) (λ i h. let inside : i < count = omega arith in omega (arith, p i inside, q i inside))

module _ (columns : Columns) where
  pub tighter-refl : (a : Ages) → Tighter columns a a
  tighter-refl a = record { must-less = λ block h. omega arith; may_more = λ block h. omega arith }

  pub tighter-trans : (a b c : Ages) → Tighter columns a b → Tighter columns b c → Tighter columns a c
  tighter-trans a b c t u =
      record {
        must-less = λ block h. omega (arith, t.must-less block h, u.must-less block h);
        may_more = λ block h. omega (arith, t.may_more block h, u.may_more block h);
      }

  -- Two states within their limits, each tighter than the other, are the same.
  pub tighter-both : (a b : Ages) → Within columns a → Within columns b → Tighter columns a b → Tighter columns b a → a ≡ b
  tighter-both a b f g t u =
      let must : a.must ≡ b.must = rows_both columns.count a.must b.must f.must_long g.must_long t.must-less u.must-less in
      let may : a.may ≡ b.may = rows_both columns.count a.may b.may f.may_long g.may_long u.may_more t.may_more in
      λ i. record { must = must i; may = may i }
