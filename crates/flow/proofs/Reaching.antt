-- Which nodes the settled table marks: those that walks reach, and no other (rule 7.9).
use mathlib.Core.Path.{◌≡◌, refl, sym, subst}
use mathlib.Core.List.{List, [], ◌∷◌, ◌++◌}
use Prim.Native.Nat.{ℕ}
use Rattle.flow.proofs.Carried.{carrying}
use Rattle.flow.proofs.Settling.{after_passes-underway, settle-tight}
use Rattle.flow.proofs.Ending.{settle-after}
use Rattle.lists.specs.Lists.{Among}
use Rattle.flow.specs.Flow.{Cell, blank, holds, cell_at, Flow, Table}
use Rattle.flow.specs.Passing.{CellBelow, leaving, Marked, Passing}
use Rattle.flow.specs.Pass.{settled, settle, after_passes}
use Rattle.flow.specs.Laws.{Laws, CellReal}
use Rattle.flow.specs.Walk.{Onward, last_of, Reached}

-- A walk goes on along any arrow of its last node.
pub onward-more : (arrows : ℕ → List ℕ) (n t : ℕ) (ts : List ℕ) → Onward arrows n ts → Among t (arrows (last_of n ts)) → Onward arrows n (ts ++ t ∷ [])
onward-more arrows n t [] w i = (i, tt)
onward-more arrows n t (k ∷ ts) w i = (w.0, onward-more arrows k t ts w.1 i)

pub last_more : (n t : ℕ) (ts : List ℕ) → last_of n (ts ++ t ∷ []) ≡ t
last_more n t [] = refl
last_more n t (k ∷ ts) = last_more k t ts

-- So a walk to n goes on to t.
abbrev pub reached_more : (arrows : ℕ → List ℕ) (entry n t : ℕ) → Among t (arrows n) → Reached arrows entry n → Reached arrows entry t
reached_more arrows entry n t i w =
    let leads = subst (λ (k : ℕ). Among t (arrows k)) (sym w.1.1) i in
    (w.0 ++ t ∷ [], (onward-more arrows entry t w.0 w.1.0 leads, last_more entry t w.0))

module _ (F : Flow) where
  -- A walk reaches n, step by step.
  data Reach : ℕ → Type 0 where
    at_entry : Reach F.entry
    onward : {n t : ℕ} → Reach n → Among t (F.arrows n) → Reach t

  pub le-marked : (c d : Cell F.State) → CellBelow F c d → Marked c → Marked d
  le-marked blank d h m = absurd m
  le-marked (holds a) blank h m = h
  le-marked (holds a) (holds b) h m = tt

  out-marked : (n : ℕ) (c : Cell F.State) → Marked c → Marked (leaving F n c)
  out-marked n blank m = m
  out-marked n (holds a) m = tt

  reach-marked : (T : Table F) → Passing F T → {n : ℕ} → Reach n → Marked (cell_at T n)
  reach-marked T p at_entry = le-marked (holds F.start) (cell_at T F.entry) p.begun tt
  reach-marked T p (onward {n = n} {t = t} r i) = le-marked (leaving F n (cell_at T n)) (cell_at T t) (p.closed n t i) (out-marked n (cell_at T n) (reach-marked T p r))

  -- Step by step or by a whole walk: the same.
  reach-onward : (n : ℕ) (ts : List ℕ) → Reach n → Onward F.arrows n ts → Reach (last_of n ts)
  reach-onward n [] r w = r
  reach-onward n (t ∷ ts) r w = reach-onward t ts (onward r w.0) w.1

  reach-reached : {n : ℕ} → Reach n → Reached F.arrows F.entry n
  reach-reached at_entry = ([], (tt, refl))
  reach-reached (onward {n = n} {t = t} r i) = reached_more F.arrows F.entry n t i (reach-reached r)

  reached-reach : (n : ℕ) → Reached F.arrows F.entry n → Reach n
  reached-reach n w = subst Reach w.1.1 (reach-onward F.entry w.0 at_entry w.1.0)

module _ (F : Flow) (L : Laws F) where
  -- the same laws, with the walk carried along
  abbrev reach_laws : Laws F
  reach_laws = carrying F (λ n a. Reach F n) at_entry (λ n t a i r. onward r i) (λ n a b r s. r) L

  marked-reach : (k n : ℕ) → Marked (cell_at (after_passes F k) n) → Reach F n
  marked-reach k n m = go (cell_at (after_passes F k) n) m ((after_passes-underway F reach_laws k).fine n)
    where
      go : (c : Cell F.State) → Marked c → CellReal F reach_laws n c → Reach F n
      go blank m r = absurd m
      go (holds x) m r = r.1

  -- Rule 7.9.
  pub settled-reach : (f k : ℕ) (U : Table F) → settle F f ≡ settled k U → (n : ℕ) → (Marked (cell_at U n) → Reached F.arrows F.entry n) × (Reached F.arrows F.entry n → Marked (cell_at U n))
  settled-reach f k U e n = (
    λ m. reach-reached F (marked-reach k n (subst (λ (S : Table F). Marked (cell_at S n)) (settle-after F f k U e).table m)),
    λ r. reach-marked F U (settle-tight F L f k U e).passing (reached-reach F n r),
  )
