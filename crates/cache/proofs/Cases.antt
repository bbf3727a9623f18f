-- A touch, by cases: of the block itself, of another set, and of a younger and an older block of the set.
use mathlib.Core.Path.{◌≡◌, refl}
use Prim.Native.Nat.{ℕ, suc, ◌≤◌, ◌<◌, min}
use borrow.Author.Tests.{eq-eqb, ne_eqb, lt-ltb, le-ltb, le-leb, lt-leb}
use Rattle.cache.specs.Ages.{must_grown, may_grown, must_after, may_after}

module _ (key age : ℕ → ℕ) (m block : ℕ) where
  pub must-own : block ≡ m → must_after key m age block ≡ 0
  unfolding must_after
  must-own e = rw (eq-eqb block m e) refl

  pub must-apart : (key block ≡ key m → ⊥) → must_after key m age block ≡ age block
  unfolding must_after
  must-apart apart = rw (ne_eqb block m (λ e. apart (rw e refl)), ne_eqb (key block) (key m) apart) refl

  pub must-younger : key block ≡ key m → (block ≡ m → ⊥) → age block < age m → must_after key m age block ≡ suc (age block)
  unfolding must_after must_grown
  must-younger k n l = rw (ne_eqb block m n, eq-eqb (key block) (key m) k, lt-ltb (age block) (age m) l) refl

  pub must-older : key block ≡ key m → (block ≡ m → ⊥) → age m ≤ age block → must_after key m age block ≡ age block
  unfolding must_after must_grown
  must-older k n l = rw (ne_eqb block m n, eq-eqb (key block) (key m) k, le-ltb (age block) (age m) l) refl

  module _ (limit : ℕ → ℕ) where
    pub may-own : block ≡ m → may_after key limit m age block ≡ 0
    unfolding may_after
    may-own e = rw (eq-eqb block m e) refl

    pub may-apart : (key block ≡ key m → ⊥) → may_after key limit m age block ≡ age block
    unfolding may_after
    may-apart apart = rw (ne_eqb block m (λ e. apart (rw e refl)), ne_eqb (key block) (key m) apart) refl

    pub may-younger : key block ≡ key m → (block ≡ m → ⊥) → age block ≤ age m → may_after key limit m age block ≡ min (limit block) (suc (age block))
    unfolding may_after may_grown
    may-younger k n l = rw (ne_eqb block m n, eq-eqb (key block) (key m) k, le-leb (age block) (age m) l) refl

    pub may-older : key block ≡ key m → (block ≡ m → ⊥) → age m < age block → may_after key limit m age block ≡ age block
    unfolding may_after may_grown
    may-older k n l = rw (ne_eqb block m n, eq-eqb (key block) (key m) k, lt-leb (age block) (age m) l) refl
