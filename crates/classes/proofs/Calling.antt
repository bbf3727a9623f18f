-- What a class says of the ages that it is called from.
use mathlib.Core.Bool.{Bool, true, false}
use mathlib.Core.Logic.{⊎_elim}
use mathlib.Core.List.{List, [], ◌∷◌, map}
use mathlib.Core.Path.{◌≡◌, refl, ap}
use Prim.Native.Nat.{ℕ, ◌≤◌, ◌<◌}
use native.Mathlib.Decide.{ℕ_discrete}
use native.Mathlib.Omega.{arith}
use borrow.Author.Tests.{lt-ltb, le-ltb, eq-eqb, ne_eqb}
use Rattle.lists.proofs.Orders.{below_or}
use Rattle.classes.specs.Class.{unreached, hit, miss, unsure, none, kept, class_by, classes_by}

module _ (limit must may : ℕ) (stays : Bool) where
  -- What a class is, in each case.
  pub young-class : must < limit → class_by limit must may stays ≡ hit
  unfolding class_by
  young-class young = rw (lt-ltb must limit young)

  pub old-class : limit ≤ must → may ≡ limit → class_by limit must may stays ≡ miss
  unfolding class_by
  old-class old p = rw (le-ltb must limit old, eq-eqb may limit p)

  pub stays-class : limit ≤ must → (may ≡ limit → ⊥) → stays ≡ true → class_by limit must may stays ≡ kept
  unfolding class_by
  stays-class old p s = rw (le-ltb must limit old, ne_eqb may limit p, s)

  pub other-class : limit ≤ must → (may ≡ limit → ⊥) → stays ≡ false → class_by limit must may stays ≡ unsure
  unfolding class_by
  other-class old p s = rw (le-ltb must limit old, ne_eqb may limit p, s)

  -- Which of them it is.
  data Called : Type 0 where
    young : must < limit → class_by limit must may stays ≡ hit → Called
    old : may ≡ limit → class_by limit must may stays ≡ miss → Called
    few : stays ≡ true → class_by limit must may stays ≡ kept → Called
    many : class_by limit must may stays ≡ unsure → Called

  called : Called
  called = ⊎_elim (λ (h : must < limit). young h (young-class h)) (λ (h : limit ≤ must). by_may h (ℕ_discrete may limit)) (below_or must limit)
    where
      by-set : limit ≤ must → (may ≡ limit → ⊥) → (s : Bool) → stays ≡ s → Called
      by-set h p true e = few e (stays-class h p e)
      by-set h p false e = many (other-class h p e)

      by_may : limit ≤ must → Dec (may ≡ limit) → Called
      by_may h (yes p) = old p (old-class h p)
      by_may h (no p) = by-set h p stays refl

  -- Rule 8.1: what is called a miss.
  pub miss-old : class_by limit must may stays ≡ miss → may ≡ limit
  miss-old e = go called
    where
      go : Called → may ≡ limit
      go (young h q) = absurd (omega arith)
      go (old p q) = p
      go (few s q) = absurd (omega arith)
      go (many q) = absurd (omega arith)

  -- Rule 8.1: what is called a hit.
  pub hit-young : class_by limit must may stays ≡ hit → must < limit
  hit-young e = go called
    where
      go : Called → must < limit
      go (young h q) = h
      go (old p q) = absurd (omega arith)
      go (few s q) = absurd (omega arith)
      go (many q) = absurd (omega arith)

  -- Rule 8.1: what is called kept.
  pub kept-few : class_by limit must may stays ≡ kept → stays ≡ true
  kept-few e = go called
    where
      go : Called → stays ≡ true
      go (young h q) = absurd (omega arith)
      go (old p q) = absurd (omega arith)
      go (few s q) = s
      go (many q) = absurd (omega arith)

  -- The class of a touch is none of those that count nothing.
  pub class-counts : (class_by limit must may stays ≡ unreached → ⊥) × (class_by limit must may stays ≡ none → ⊥)
  class-counts = go called
    where
      go : Called → (class_by limit must may stays ≡ unreached → ⊥) × (class_by limit must may stays ≡ none → ⊥)
      go (young h q) = (λ e. omega arith, λ e. omega arith)
      go (old p q) = (λ e. omega arith, λ e. omega arith)
      go (few s q) = (λ e. omega arith, λ e. omega arith)
      go (many q) = (λ e. omega arith, λ e. omega arith)

-- The classes of touches that stand for others are those of the others.
pub classes-mapped : {D E S : Type 0} (f : D → E) (class_at : E → S → ℕ) (touched_by : E → S → S) (touches : List D) (a : S)
    → classes_by class_at touched_by (map f touches) a ≡ classes_by (λ touch. class_at (f touch)) (λ touch. touched_by (f touch)) touches a
classes-mapped f class_at touched_by [] a = refl
classes-mapped f class_at touched_by (touch ∷ touches) a =
    ap (λ (l : List ℕ). class_at (f touch) a ∷ l) (classes-mapped f class_at touched_by touches (touched_by (f touch) a))
