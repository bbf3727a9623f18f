-- A touch: the age of each block after it, that it keeps ages within their limits, and that it keeps the order of states.
use mathlib.Core.Bool.{Bool, true, false, cond}
use mathlib.Core.Path.{◌≡◌, refl}
use Prim.Native.Nat.{ℕ, ◌≤◌, ◌<◌}
use native.Mathlib.Omega.{arith}
use borrow.Author.Tests.{eqb-true}
use lib.Dec.{eqb}
use Rattle.lists.proofs.Listed.{length-list_of, get_or-list_of}
use Rattle.cache.specs.Ages.{Columns, Ages, age_of, must_grown, may_grown, must_after, may_after, touch_ages, Within, Tighter}
use Rattle.cache.proofs.Growing.{grown-within, may-grown-within, grown-monotone, may-grown-monotone}

-- ---- the touched block, another of its set, and the rest

three-within : (own same : Bool) (grown age limit : ℕ) → (same ≡ true → grown ≤ limit) → age ≤ limit → cond own 0 (cond same grown age) ≤ limit
three-within true same grown age limit p q = omega arith
three-within false true grown age limit p q = p refl
three-within false false grown age limit p q = q

three-monotone : (own same : Bool) (x y a b : ℕ) → x ≤ y → a ≤ b → cond own 0 (cond same x a) ≤ cond own 0 (cond same y b)
three-monotone true same x y a b p q = omega arith
three-monotone false true x y a b p q = p
three-monotone false false x y a b p q = q

module _ (key : ℕ → ℕ) (m block : ℕ) where
  must-within : (limit : ℕ) (age : ℕ → ℕ) → age block ≤ limit → (key block ≡ key m → age m ≤ limit) → must_after key m age block ≤ limit
  unfolding must_after
  must-within limit age p q =
      three-within (eqb block m) (eqb (key block) (key m)) (must_grown (age m) (age block)) (age block) limit
      (λ e. grown-within limit (age m) (age block) p (q (eqb-true (key block) (key m) e)))
      p

  may-within : (limit : ℕ → ℕ) (age : ℕ → ℕ) → age block ≤ limit block → may_after key limit m age block ≤ limit block
  unfolding may_after
  may-within limit age p =
      three-within (eqb block m) (eqb (key block) (key m)) (may_grown (limit block) (age m) (age block)) (age block) (limit block)
      (λ e. may-grown-within (limit block) (age m) (age block) p)
      p

  module _ (f g : ℕ → ℕ) (at-m : f m ≤ g m) (here : f block ≤ g block) where
    must-monotone : must_after key m f block ≤ must_after key m g block
    unfolding must_after
    must-monotone =
        three-monotone (eqb block m) (eqb (key block) (key m)) (must_grown (f m) (f block)) (must_grown (g m) (g block)) (f block) (g block)
        (grown-monotone (f m) (g m) (f block) (g block) at-m here)
        here

    may-monotone : (limit : ℕ → ℕ) → f block ≤ limit block → may_after key limit m f block ≤ may_after key limit m g block
    unfolding may_after
    may-monotone limit l =
        three-monotone (eqb block m) (eqb (key block) (key m)) (may_grown (limit block) (f m) (f block)) (may_grown (limit block) (g m) (g block)) (f block) (g block)
        (may-grown-monotone (limit block) (f m) (g m) (f block) (g block) l at-m here)
        here

-- ---- a state

-- The columns of one set have one must limit.
abbrev LimitOfSet : Columns → Type 0
LimitOfSet columns = (i j : ℕ) → i < columns.count → j < columns.count → columns.key i ≡ columns.key j → columns.must_limit i ≡ columns.must_limit j

module _ (columns : Columns) (m : ℕ) where
  pub touch-must : (a : Ages) (block : ℕ) → block < columns.count → age_of (touch_ages columns m a).must block ≡ must_after columns.key m (age_of a.must) block
  unfolding touch_ages
  touch-must a block h = get_or-list_of columns.count (must_after columns.key m (age_of a.must)) 0 block h

  pub touch-may : (a : Ages) (block : ℕ) → block < columns.count → age_of (touch_ages columns m a).may block ≡ may_after columns.key columns.may_limit m (age_of a.may) block
  unfolding touch_ages
  touch-may a block h = get_or-list_of columns.count (may_after columns.key columns.may_limit m (age_of a.may)) 0 block h

  module _ (inside : m < columns.count) where
    pub touch-within : LimitOfSet columns → (a : Ages) → Within columns a → Within columns (touch_ages columns m a)
    unfolding touch_ages
    touch-within one a w =
        record {
          must_long = length-list_of columns.count (must_after columns.key m (age_of a.must));
          may_long = length-list_of columns.count (may_after columns.key columns.may_limit m (age_of a.may));
          must-most = λ block h. rw (touch-must a block h)
              (must-within columns.key m block (columns.must_limit block) (age_of a.must) (w.must-most block h) (λ e. omega (arith, one block m h inside e, w.must-most m inside)));
          may-most = λ block h. rw (touch-may a block h)
              (may-within columns.key m block columns.may_limit (age_of a.may) (w.may-most block h));
        }

    pub touch-monotone : (a b : Ages) → Within columns b → Tighter columns a b → Tighter columns (touch_ages columns m a) (touch_ages columns m b)
    touch-monotone a b w t =
        record {
          must-less = λ block h. rw (touch-must a block h, touch-must b block h)
              (must-monotone columns.key m block (age_of a.must) (age_of b.must) (t.must-less m inside) (t.must-less block h));
          may_more = λ block h. rw (touch-may a block h, touch-may b block h)
              (may-monotone columns.key m block (age_of b.may) (age_of a.may) (t.may_more m inside) (t.may_more block h) columns.may_limit (w.may-most block h));
        }
