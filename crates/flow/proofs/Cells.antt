-- Laws of one cell: placing a state into it, and the order and the steps of cells.
use mathlib.Core.Path.{◌≡◌, sym, ap, subst}
use mathlib.Core.Bool.{false, true≢false}
use mathlib.Core.List.{[], ◌∷◌}
use Prim.Native.Nat.{ℕ, zero, suc, ◌<◌}
use native.Mathlib.Omega.{arith}
use native.Mathlib.Decide.{ℕ_discrete}
use borrow.Author.Tests.{not-false}
use lib.ListN.{length, length-set}
use lib.Seq.{get_or-set_same, get_or-set_other}
use Rattle.flow.specs.Flow.{Cell, blank, holds, cell_at, Flow, Table}
use Rattle.flow.specs.Passing.{CellBelow, CellOk, leaving}
use Rattle.flow.specs.Pass.{met, changes, met_at}
use Rattle.flow.specs.Laws.{Laws, CellReal}

module _ (F : Flow) where
  -- A property of every cell, after a meeting: it holds of the cell met, and of the others as before.
  pub met_at-all : (Q : ℕ → Cell F.State → Type 0) (T : Table F) (t : ℕ) (x : F.State) → t < length T → Q t (met F (cell_at T t) x) → ((m : ℕ) → Q m (cell_at T m))
      → (m : ℕ) → Q m (cell_at (met_at F T t x) m)
  unfolding met_at
  met_at-all Q T t x h new old m = go (ℕ_discrete m t)
    where
      go : Dec (m ≡ t) → Q m (cell_at (met_at F T t x) m)
      go (yes e) = subst (λ (k : ℕ). Q k (cell_at (met_at F T t x) k)) (sym e) (subst (Q t) (sym (get_or-set_same T t (met F (cell_at T t) x) blank h)) new)
      go (no ne) = subst (Q m) (sym (get_or-set_other T t m (met F (cell_at T t) x) blank ne)) (old m)

  pub met_at-length : (T : Table F) (t : ℕ) (x : F.State) → length (met_at F T t x) ≡ length T
  unfolding met_at
  met_at-length T t x = length-set T t (met F (cell_at T t) x)

  pub met_at-at : (T : Table F) (t : ℕ) (x : F.State) → t < length T → cell_at (met_at F T t x) t ≡ met F (cell_at T t) x
  unfolding met_at
  met_at-at T t x h = get_or-set_same T t (met F (cell_at T t) x) blank h

  pub cell_in : (T : Table F) (n : ℕ) (x : F.State) → cell_at T n ≡ holds x → n < length T
  cell_in [] n x e = let z : ◌≡◌ {A = ℕ} 0 1 = cc in omega arith
  cell_in (c ∷ T) zero x e = omega arith
  cell_in (c ∷ T) (suc n) x e = let h = cell_in T n x e in omega arith

module _ (F : Flow) (L : Laws F) where
  -- The laws, of cells.
  pub cell-ok : (n : ℕ) (c : Cell F.State) → CellReal F L n c → CellOk F c
  cell-ok n blank r = tt
  cell-ok n (holds a) r = L.real_ok n a r

  pub cell-refl : (c : Cell F.State) → CellBelow F c c
  cell-refl blank = tt
  cell-refl (holds a) = L.below_refl a

  pub cell-trans : (c d e : Cell F.State) → CellBelow F c d → CellBelow F d e → CellBelow F c e
  cell-trans blank d e h k = tt
  cell-trans (holds a) blank e h k = absurd h
  cell-trans (holds a) (holds b) blank h k = absurd k
  cell-trans (holds a) (holds b) (holds c) h k = L.below_trans a b c h k

  pub met-left : (n : ℕ) (c : Cell F.State) (x : F.State) → CellReal F L n c → L.Real n x → CellBelow F c (met F c x)
  unfolding met
  met-left n blank x o p = tt
  met-left n (holds a) x o p = L.meet_left n a x o p

  pub met-right : (n : ℕ) (c : Cell F.State) (x : F.State) → CellReal F L n c → L.Real n x → CellBelow F (holds x) (met F c x)
  unfolding met
  met-right n blank x o p = L.below_refl x
  met-right n (holds a) x o p = L.meet_right n a x o p

  pub met-least : (n : ℕ) (c d : Cell F.State) (x : F.State) → CellReal F L n c → CellOk F d → L.Real n x → CellBelow F c d → CellBelow F (holds x) d → CellBelow F (met F c x) d
  unfolding met
  met-least n blank d x o q p h k = k
  met-least n (holds a) blank x o q p h k = h
  met-least n (holds a) (holds b) x o q p h k = L.meet_least n a x b o p q h k

  pub met-real : (n : ℕ) (c : Cell F.State) (x : F.State) → CellReal F L n c → L.Real n x → CellReal F L n (met F c x)
  unfolding met
  met-real n blank x o p = p
  met-real n (holds a) x o p = L.real_meet n a x o p

  pub met-still : (c : Cell F.State) (x : F.State) → changes F c x ≡ false → met F c x ≡ c
  unfolding met changes
  met-still blank x e = absurd (true≢false e)
  met-still (holds a) x e = ap holds (L.same_yes _ _ (not-false _ e))

  pub leaving-monotone : (n : ℕ) (c d : Cell F.State) → n < F.nodes → CellReal F L n c → CellOk F d → CellBelow F c d → CellBelow F (leaving F n c) (leaving F n d)
  leaving-monotone n blank d b o p h = tt
  leaving-monotone n (holds x) blank b o p h = h
  leaving-monotone n (holds x) (holds y) b o p h = L.monotone n x y b o p h
