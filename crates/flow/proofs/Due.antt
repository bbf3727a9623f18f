-- Passes that take only nodes that are due. A visit of any other leaves the run as it is: its targets have what it brings, and what a state
-- has already changes nothing there. So the table, the flag and the number of passes are those of the definition.
use mathlib.Core.Path.{◌≡◌, refl, sym, ap, ◌∙◌}
use mathlib.Core.Bool.{Bool, true, false, cond, true≢false}
use mathlib.Core.List.{List, [], ◌∷◌}
use mathlib.Core.Logic.{◌⊎◌, inl, inr, ⊎_elim}
use Prim.Native.Nat.{ℕ, zero, suc, ◌+◌, ◌≤◌, ◌<◌}
use native.Mathlib.Omega.{arith}
use native.Mathlib.Decide.{ℕ_discrete}
use borrow.Author.Tests.{eqb-true, eq-eqb, ne_eqb}
use lib.Dec.{eqb}
use Rattle.lists.specs.Lists.{Among}
use Rattle.lists.proofs.Choice.{or-last, or-always}
use Rattle.flow.specs.Flow.{Cell, blank, holds, cell_at, Flow, Table}
use Rattle.flow.specs.Passing.{CellBelow, leaving, Marked}
use Rattle.flow.specs.Pass.{Run, changes, met_at, put, put_all, take_with, take_node, take_nodes, before}
use Rattle.flow.specs.Laws.{Laws, CellReal}
use Rattle.flow.specs.Underway.{Underway, Meetable}
use Rattle.flow.specs.Working.{Brought, Working, Sending, DueAfter, due_with, due_sent, but_one, due_taken}
use Rattle.flow.proofs.Settling.{met_at-still, met_at-underway, step-meetable, before_at, before-all}
use Rattle.flow.proofs.Working.{sending-begins, sending-sends, sending-ends}

module _ (F : Flow) (L : Laws F) (same-itself : (a : F.State) → F.same a a ≡ true) where
  -- ---- a clean node

  -- A state that a cell has already changes nothing there.
  had-still : (t : ℕ) (c : Cell F.State) (y : F.State) → CellReal F L t c → L.Real t y → CellBelow F (holds y) c → changes F c y ≡ false
  unfolding changes
  had-still t blank y o p h = absurd h
  had-still t (holds b) y o p h = rw (join, same-itself b)
    where
      join : F.meet b y ≡ b
      join = L.below_both (F.meet b y) b (L.real_ok t (F.meet b y) (L.real_meet t b y o p)) (L.real_ok t b o) (L.meet_least t b y b o p (L.real_ok t b o) (L.below_refl b) h) (L.meet_left t b y o p)

  put-had : (T : Table F) (changed : Bool) (t : ℕ) (y : F.State) → Underway F L T → L.Real t y → CellBelow F (holds y) (cell_at T t)
      → put F y t (record { table = T; changed = changed }) ≡ record { table = T; changed = changed }
  unfolding put
  put-had T changed t y u p h =
      let still = had-still t (cell_at T t) y (u.fine t) p h in
      rw (still, met_at-still F L T t y still, or-last changed)

  put_all-had : (T : Table F) (changed : Bool) (y : F.State) → Underway F L T → (ts : List ℕ) → ((t : ℕ) → Among t ts → L.Real t y × CellBelow F (holds y) (cell_at T t))
      → put_all F y ts (record { table = T; changed = changed }) ≡ record { table = T; changed = changed }
  unfolding put_all
  put_all-had T changed y u [] all = refl
  put_all-had T changed y u (t ∷ ts) all =
      let here = all t (inl refl) in
      ap (put_all F y ts) (put-had T changed t y u here.0 here.1) ∙ put_all-had T changed y u ts (λ s i. all s (inr i))

  -- A visit of a clean node leaves the run as it is.
  pub clean-visit : (T : Table F) (due : ℕ → Bool) (changed : Bool) → Underway F L T → Working F T due → (n : ℕ) → n < F.nodes → due n ≡ false
      → take_node F n (record { table = T; changed = changed }) ≡ record { table = T; changed = changed }
  unfolding take_node take_with
  clean-visit T due changed u w n h clean = go (cell_at T n) refl
    where
      go : (c : Cell F.State) → cell_at T n ≡ c → take_with F n c (record { table = T; changed = changed }) ≡ record { table = T; changed = changed }
      go blank e = refl
      go (holds x) e =
          put_all-had T changed (F.step n x) u (F.arrows n)
          (λ t i. (
            (step-meetable F L T n x u e t i).real,
            ⊎_elim (λ (d : due n ≡ true). absurd (true≢false (sym d ∙ clean)))
                (λ (b : Brought F T n t). rw e at b) (w.brought n t h i),
          ))

  -- So does a stretch of clean nodes.
  pub clean-stretch : (r : Run F.State) (due : ℕ → Bool) (from : ℕ) → Underway F L (take_nodes F from r).table → Working F (take_nodes F from r).table due
      → (more : ℕ) → from + more ≤ F.nodes → ((m : ℕ) → from ≤ m → m < from + more → due m ≡ false) → take_nodes F (from + more) r ≡ take_nodes F from r
  unfolding take_nodes
  clean-stretch r due from u w zero h clean = let e : from + zero ≡ from = omega arith in rw e
  clean-stretch r due from u w (suc more) h clean =
      let e : from + suc more ≡ suc (from + more) = omega arith in
      let rest = clean-stretch r due from u w more (omega arith) (λ m l k. clean m l (omega arith)) in
      rw e
      (ap (take_node F (from + more)) rest ∙ clean-visit (take_nodes F from r).table due (take_nodes F from r).changed u w (from + more) (omega arith) (clean (from + more) (omega arith) (omega arith)))

module _ (F : Flow) (L : Laws F) where
  -- ---- a node that is due

  due-kept : (T : Table F) (a : F.State) (t : ℕ) (due : ℕ → Bool) (m : ℕ) → due m ≡ true → due_with F T a t due m ≡ true
  due-kept T a t due m d = rw d

  due-new : (T : Table F) (a : F.State) (t : ℕ) (due : ℕ → Bool) (m : ℕ) → due_with F T a t due m ≡ true → (due m ≡ true) ⊎ (m ≡ t)
  due-new T a t due m d = go (due m) refl (ℕ_discrete m t)
    where
      go : (b : Bool) → due m ≡ b → Dec (m ≡ t) → (due m ≡ true) ⊎ (m ≡ t)
      go true e q = inl e
      go false e (yes q) = inr q
      go false e (no q) = absurd (none (changes F (cell_at T t) a) (rw (e, ne_eqb m t q) at d))
        where
          none : (b : Bool) → cond b false false ≡ true → ⊥
          none true z = true≢false (sym z)
          none false z = true≢false (sym z)

  due-there : (T : Table F) (a : F.State) (t : ℕ) (due : ℕ → Bool) → (due_with F T a t due t ≡ true) ⊎ (met_at F T t a ≡ T)
  due-there T a t due = go (changes F (cell_at T t) a) refl
    where
      go : (b : Bool) → changes F (cell_at T t) a ≡ b → (due_with F T a t due t ≡ true) ⊎ (met_at F T t a ≡ T)
      go true e = inl (rw (e, eq-eqb t t refl) (or-always (due t)))
      go false e = inr (met_at-still F L T t a e)

  -- Its state goes to each target in turn.
  sent-all : (n : ℕ) (x : F.State) (ts : List ℕ) (run : Run F.State) (due : ℕ → Bool) → Underway F L run.table → ((t : ℕ) → Among t ts → Meetable F L t (F.step n x))
      → Sending F run.table due n x ts → Working F (put_all F (F.step n x) ts run).table (due_sent F (F.step n x) ts run.table due)
  unfolding put_all put
  sent-all n x [] run due u meets s = sending-ends F run.table due n x s
  sent-all n x (t ∷ ts) run due u meets s =
      let here = meets t (inl refl) in
      let after = due_with F run.table (F.step n x) t due in
      let so : DueAfter F run.table due after t (met_at F run.table t (F.step n x)) = record { still-due = due-kept run.table (F.step n x) t due; newly-due = due-new run.table (F.step n x) t due; due-or-same = due-there run.table (F.step n x) t due } in
      sent-all n x ts (put F (F.step n x) t run) after (met_at-underway F L run.table t (F.step n x) u here) (λ k i. meets k (inr i))
      (sending-sends F L run.table due after n x t ts u here s so)

  -- It is taken.
  pub due-visit : (T : Table F) (due : ℕ → Bool) (changed : Bool) → Underway F L T → Working F T due → (n : ℕ) (x : F.State) → cell_at T n ≡ holds x
      → Working F (put_all F (F.step n x) (F.arrows n) (record { table = T; changed = changed })).table (due_taken F n (F.step n x) T due)
  due-visit T due changed u w n x e =
      sent-all n x (F.arrows n) (record { table = T; changed = changed }) (but_one n due) u (step-meetable F L T n x u e)
      (sending-begins F T due (but_one n due) n x e w fewer others)
    where
      fewer : (m : ℕ) → but_one n due m ≡ true → due m ≡ true
      fewer m d = go (ℕ_discrete m n)
        where
          go : Dec (m ≡ n) → due m ≡ true
          go (yes q) = absurd (true≢false (sym d ∙ (rw (eq-eqb m n q))))
          go (no q) = rw (ne_eqb m n q) at d

      others : (m : ℕ) → (m ≡ n → ⊥) → due m ≡ true → but_one n due m ≡ true
      others m q d = rw (ne_eqb m n q) d

  -- ---- before the first pass the entry is due

  pub begun-working : (due : ℕ → Bool) → ((m : ℕ) → due m ≡ eqb m F.entry) → Working F (before F) due
  begun-working due only = record {
    due-marked = λ n h d. marked n d;
    brought = λ n t h i. sent n t;
  }
    where
      marked : (n : ℕ) → due n ≡ true → Marked (cell_at (before F) n)
      marked n d = let e : n ≡ F.entry = eqb-true n F.entry (sym (only n) ∙ d) in rw (e, before_at F L) tt

      sent : (n t : ℕ) → (due n ≡ true) ⊎ Brought F (before F) n t
      sent n t = before-all F L (λ m c. (due m ≡ true) ⊎ CellBelow F (leaving F m c) (cell_at (before F) t)) (inl (only F.entry ∙ eq-eqb F.entry F.entry refl)) (λ m. inr tt) n
