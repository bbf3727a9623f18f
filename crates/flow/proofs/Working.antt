-- Nodes taken in any order, each that is due: what is sent from one keeps the table on its way, and where none is due the table is the tightest.
use mathlib.Core.Path.{◌≡◌, refl, sym, subst, ◌∙◌}
use mathlib.Core.Bool.{Bool, true}
use mathlib.Core.List.{List, [], ◌∷◌}
use mathlib.Core.Logic.{◌⊎◌, inl, inr, ⊎_elim}
use Prim.Native.Nat.{ℕ, ◌<◌}
use native.Mathlib.Omega.{arith}
use native.Mathlib.Decide.{ℕ_discrete}
use lib.Seq.{get_or-set_other}
use Rattle.lists.specs.Lists.{Among}
use Rattle.flow.specs.Flow.{Cell, blank, holds, cell_at, Flow, Table}
use Rattle.flow.specs.Passing.{leaving, Marked, Tightest}
use Rattle.flow.specs.Pass.{met, met_at}
use Rattle.flow.specs.Laws.{Laws}
use Rattle.flow.specs.Underway.{Underway, Meetable}
use Rattle.flow.specs.Working.{Brought, Working, Sending, DueAfter}
use Rattle.flow.proofs.Cells.{cell_in, cell-ok, cell-trans}
use Rattle.flow.proofs.Settling.{met_at-grows, met_at-has, underway-tightest}
use Rattle.flow.proofs.Reaching.{le-marked}

module _ (F : Flow) where
  -- A node's turn begins: it is no longer due, and all is still to be sent.
  pub sending-begins : (T : Table F) (due after : ℕ → Bool) (n : ℕ) (x : F.State) → cell_at T n ≡ holds x → Working F T due
      → ((m : ℕ) → after m ≡ true → due m ≡ true) → ((m : ℕ) → (m ≡ n → ⊥) → due m ≡ true → after m ≡ true) → Sending F T after n x (F.arrows n)
  sending-begins T due after n x e w fewer others = record { due-marked = λ m h d. w.due-marked m h (fewer m d); brought = λ m t h i. go m t i (ℕ_discrete m n) (w.brought m t h i) }
    where
      go : (m t : ℕ) → Among t (F.arrows m) → Dec (m ≡ n) → (due m ≡ true) ⊎ Brought F T m t
          → (after m ≡ true) ⊎ (Brought F T m t ⊎ ((m ≡ n) × ((cell_at T n ≡ holds x) × Among t (F.arrows n))))
      go m t i (yes q) b = inr (inr (q, (e, subst (λ (k : ℕ). Among t (F.arrows k)) q i)))
      go m t i (no q) (inl d) = inl (others m q d)
      go m t i (no q) (inr b) = inr (inl b)

  -- A node's turn ends: nothing is left to be sent.
  pub sending-ends : (T : Table F) (due : ℕ → Bool) (n : ℕ) (x : F.State) → Sending F T due n x [] → Working F T due
  sending-ends T due n x s = record { due-marked = s.due-marked; brought = λ m t h i. go m t (s.brought m t h i) }
    where
      go : (m t : ℕ) → (due m ≡ true) ⊎ (Brought F T m t ⊎ ((m ≡ n) × ((cell_at T n ≡ holds x) × ⊥))) → (due m ≡ true) ⊎ Brought F T m t
      go m t (inl d) = inl d
      go m t (inr (inl b)) = inr b
      go m t (inr (inr q)) = absurd q.1.1

  met_at-other : (T : Table F) (t : ℕ) (y : F.State) (m : ℕ) → (m ≡ t → ⊥) → cell_at (met_at F T t y) m ≡ cell_at T m
  unfolding met_at
  met_at-other T t y m q = get_or-set_other T t m (met F (cell_at T t) y) blank q

module _ (F : Flow) (L : Laws F) where
  -- One state is sent to one target.
  module _ (T : Table F) (due after : ℕ → Bool) (n : ℕ) (x : F.State) (t : ℕ) (ts : List ℕ) (underway : Underway F L T) (meets : Meetable F L t (F.step n x))
      (s : Sending F T due n x (t ∷ ts)) (so : DueAfter F T due after t (met_at F T t (F.step n x))) where
    -- a cell is as it was, or its node is due
    same-cell : (m : ℕ) → (after m ≡ true) ⊎ (cell_at (met_at F T t (F.step n x)) m ≡ cell_at T m)
    same-cell m = go (ℕ_discrete m t)
      where
        go : Dec (m ≡ t) → (after m ≡ true) ⊎ (cell_at (met_at F T t (F.step n x)) m ≡ cell_at T m)
        go (no q) = inr (met_at-other F T t (F.step n x) m q)
        go (yes q) = ⊎_elim (λ (d : after t ≡ true). inl (subst (λ (k : ℕ). after k ≡ true) (sym q) d)) (λ (e : met_at F T t (F.step n x) ≡ T). inr (rw e)) so.due-or-same

    still : (m u : ℕ) → cell_at (met_at F T t (F.step n x)) m ≡ cell_at T m → Brought F T m u → Brought F (met_at F T t (F.step n x)) m u
    still m u e b =
        rw e
        (cell-trans F L (leaving F m (cell_at T m)) (cell_at T u) (cell_at (met_at F T t (F.step n x)) u) b (met_at-grows F L T t (F.step n x) underway meets u))

    sent-brought : (m u : ℕ) → (due m ≡ true) ⊎ (Brought F T m u ⊎ ((m ≡ n) × ((cell_at T n ≡ holds x) × Among u (t ∷ ts))))
        → (after m ≡ true) ⊎ (cell_at (met_at F T t (F.step n x)) m ≡ cell_at T m)
        → (after m ≡ true) ⊎ (Brought F (met_at F T t (F.step n x)) m u ⊎ ((m ≡ n) × ((cell_at (met_at F T t (F.step n x)) n ≡ holds x) × Among u ts)))
    sent-brought m u b (inl d) = inl d
    sent-brought m u (inl d) (inr e) = inl (so.still-due m d)
    sent-brought m u (inr (inl b)) (inr e) = inr (inl (still m u e b))
    sent-brought m u (inr (inr (q, (c, inl k)))) (inr e) =
        let here : cell_at (met_at F T t (F.step n x)) m ≡ holds x = subst (λ (j : ℕ). cell_at (met_at F T t (F.step n x)) m ≡ cell_at T j) q e ∙ c in
        inr (inl (rw (here, q, k) (met_at-has F L T t (F.step n x) underway meets)))
    sent-brought m u (inr (inr (q, (c, inr i)))) (inr e) =
        inr (inr (q, (subst (λ (j : ℕ). cell_at (met_at F T t (F.step n x)) j ≡ cell_at T j) q e ∙ c, i)))

    still_marked : (m : ℕ) → m < F.nodes → (due m ≡ true) ⊎ (m ≡ t) → Marked (cell_at (met_at F T t (F.step n x)) m)
    still_marked m h (inl d) = le-marked F (cell_at T m) (cell_at (met_at F T t (F.step n x)) m) (met_at-grows F L T t (F.step n x) underway meets m) (s.due-marked m h d)
    still_marked m h (inr q) =
        le-marked F (holds (F.step n x)) (cell_at (met_at F T t (F.step n x)) m) (rw q (met_at-has F L T t (F.step n x) underway meets)) tt

    pub sending-sends : Sending F (met_at F T t (F.step n x)) after n x ts
    sending-sends = record {
      due-marked = λ m h d. still_marked m h (so.newly-due m d);
      brought = λ m u h i. sent-brought m u (s.brought m u h i) (same-cell m);
    }

  -- None is due: the table passes, and is the tightest.
  pub idle-tightest : (T : Table F) (due : ℕ → Bool) → Underway F L T → Working F T due → ((n : ℕ) → n < F.nodes → due n ≡ true → ⊥) → Tightest F T
  idle-tightest T due u w none =
      underway-tightest F L T u (record { long = u.long; fine = λ n. cell-ok F L n (cell_at T n) (u.fine n); begun = u.begun; closed = λ n t i. go n t i (cell_at T n) refl })
    where
      go : (n t : ℕ) → Among t (F.arrows n) → (c : Cell F.State) → cell_at T n ≡ c → Brought F T n t
      go n t i blank q = rw q tt
      go n t i (holds x) q =
          let inside : n < F.nodes = (let b = cell_in F T n x q in let l = u.long in omega arith) in
          ⊎_elim (λ (d : due n ≡ true). absurd (none n inside d)) (λ (b : Brought F T n t). b) (w.brought n t inside i)
