-- Tests that tell whether a statement holds, and rules whose tests do: the first that applies is the first whose statement holds.
use Prim.Native.Nat.{ℕ, ◌≤◌, ◌<◌}
use mathlib.Core.Bool.{Bool, true, false, not, ◌&&◌, ◌||◌}
use mathlib.Core.List.{List, [], ◌∷◌}
use mathlib.Core.Logic.{◌⊎◌, inl, inr, ⊎_elim}
use mathlib.Core.Path.{◌≡◌, refl, sym, ap, subst, ◌∙◌}
use native.Mathlib.Omega.{arith}
use borrow.Author.Tests.{ltb-true, ltb-false, leb-true, leb-false, eqb-true, eqb-false}
use lib.Dec.{ltb, leb, eqb}
use Rattle.lists.specs.Choice.{Case, ◌⇒◌, NoneApplies, FirstApplies}
use Rattle.lists.specs.Telling.{Tells, AllTell, Numbered, Answered}

-- ---- one test

apart : true ≡ false → ⊥
apart e = let z : ◌≡◌ {A = ℕ} 0 1 = cc in omega arith

pub tells-ltb : (a b : ℕ) → Tells (ltb a b) (a < b)
tells-ltb a b = (ltb-true a b, λ e h. omega (arith, ltb-false a b e))

pub tells-leb : (a b : ℕ) → Tells (leb a b) (a ≤ b)
tells-leb a b = (leb-true a b, λ e h. omega (arith, leb-false a b e))

pub tells-eqb : (a b : ℕ) → Tells (eqb a b) (a ≡ b)
tells-eqb a b = (eqb-true a b, eqb-false a b)

pub tells-not : (t : Bool) (S : Type 0) → Tells t S → Tells (not t) (S → ⊥)
tells-not true S h = ((λ e. absurd (apart (sym e))), λ e no. no (h.0 refl))
tells-not false S h = ((λ e s. h.1 refl s), λ e. absurd (apart e))

pub tells-and : (a b : Bool) (S U : Type 0) → Tells a S → Tells b U → Tells (a && b) (S × U)
tells-and true b S U g h = ((λ e. (g.0 refl, h.0 e)), λ e both. h.1 e both.1)
tells-and false b S U g h = ((λ e. absurd (apart (sym e))), λ e both. g.1 refl both.0)

-- Where one statement leads to the other and back.
pub tells-same : (t : Bool) (S U : Type 0) → (S → U) → (U → S) → Tells t S → Tells t U
tells-same t S U to back h = ((λ e. to (h.0 e)), λ e u. h.1 e (back u))

-- "If S, then U", where a test tells S.
pub tells-if : (a b : Bool) (S U : Type 0) → Tells a S → Tells b U → Tells (not a || b) (S → U)
tells-if true b S U g h = ((λ e s. h.0 e), λ e f. h.1 e (f (g.0 refl)))
tells-if false b S U g h = ((λ e s. absurd (g.1 refl s)), λ e. absurd (apart e))

pub holds-true : (t : Bool) (S : Type 0) → Tells t S → S → t ≡ true
holds-true true S h s = refl
holds-true false S h s = absurd (h.1 refl s)

pub fails-false : (t : Bool) (S : Type 0) → Tells t S → (S → ⊥) → t ≡ false
fails-false true S h none = absurd (none (h.0 refl))
fails-false false S h none = refl

-- ---- rules with numbers that ascend, each test telling when its answer applies

module _ {X : Type 0} (number : X → ℕ) (Applies : X → Type 0) where
  above : (low : ℕ) (cases : List (Case X)) → Numbered number low cases → (x : X) → Answered x cases → low < number x
  above low [] n x a = absurd a
  above low ((test ⇒ answer) ∷ cases) n x (inl e) = subst (λ (y : X). low < number y) e n.0
  above low ((test ⇒ answer) ∷ cases) n x (inr a) = omega (arith, n.0, above (number answer) cases n.1 x a)

  -- The first that applies does, and none of a smaller number.
  pub first-only : (low : ℕ) (cases : List (Case X)) → Numbered number low cases → AllTell Applies cases → (x : X) → FirstApplies cases x → Applies x × ((q : X) → Answered q cases → number q < number x → Applies q → ⊥)
  first-only low [] n tell x f = absurd f
  first-only low ((test ⇒ answer) ∷ cases) n tell x (inl e) =
      (subst Applies e.1 (tell.0.0 e.0), λ q a less. absurd (none q a less))
    where
      none : (q : X) → (answer ≡ q) ⊎ Answered q cases → number q < number x → ⊥
      none q (inl d) less = let same : number q ≡ number x = ap number (sym d ∙ e.1) in omega arith
      none q (inr a) less = let same : number answer ≡ number x = ap number e.1 in omega (arith, above (number answer) cases n.1 q a)
  first-only low ((test ⇒ answer) ∷ cases) n tell x (inr e) =
      let rest = first-only (number answer) cases n.1 tell.1 x e.1 in
      (rest.0, λ q a less. ⊎_elim (λ (d : answer ≡ q). λ h. tell.0.1 e.0 (subst Applies (sym d) h)) (λ (b : Answered q cases). rest.1 q b less) a)

  -- One that applies, and none of a smaller number, is the first.
  pub first-given : (low : ℕ) (cases : List (Case X)) → Numbered number low cases → AllTell Applies cases → (x : X) → Answered x cases → Applies x → ((q : X) → number q < number x → Applies q → ⊥) → FirstApplies cases x
  first-given low [] n tell x a h none = absurd a
  first-given low ((test ⇒ answer) ∷ cases) n tell x (inl e) h none = inl (holds-true test (Applies answer) tell.0 (subst Applies (sym e) h), e)
  first-given low ((test ⇒ answer) ∷ cases) n tell x (inr a) h none =
      inr
      (fails-false test (Applies answer) tell.0 (none answer (above (number answer) cases n.1 x a)), first-given (number answer) cases n.1 tell.1 x a h none)

  pub none_given : (cases : List (Case X)) → AllTell Applies cases → ((q : X) → Applies q → ⊥) → NoneApplies cases
  none_given [] tell none = tt
  none_given ((test ⇒ answer) ∷ cases) tell none = (fails-false test (Applies answer) tell.0 (none answer), none_given cases tell.1 none)

  pub none_only : (cases : List (Case X)) → AllTell Applies cases → NoneApplies cases → (q : X) → Answered q cases → Applies q → ⊥
  none_only [] tell none q a h = absurd a
  none_only ((test ⇒ answer) ∷ cases) tell none q (inl e) h = tell.0.1 none.0 (subst Applies (sym e) h)
  none_only ((test ⇒ answer) ∷ cases) tell none q (inr a) h = none_only cases tell.1 none.1 q a h
