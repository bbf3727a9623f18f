-- Every table that passes reach from the first is below every table that passes; a pass that changes nothing leaves a table that passes.
use mathlib.Core.Path.{◌≡◌, refl, sym, ap, ◌∙◌, subst}
use mathlib.Core.Bool.{Bool, true, false, ◌||◌, true≢false}
use mathlib.Core.List.{List, [], ◌∷◌}
use mathlib.Core.Logic.{inl, inr, ◌≢◌}
use Prim.Native.Nat.{ℕ, zero, suc, ◌<◌}
use native.Mathlib.Omega.{arith}
use native.Mathlib.Decide.{ℕ_discrete}
use lib.ListN.{length, replicate, length-set, length-replicate}
use lib.Seq.{ext_get_or, get_or-set_same, get_or-set_other, set-get_or}
use Rattle.lists.specs.Lists.{Among}
use Rattle.flow.specs.Flow.{Cell, blank, holds, cell_at, Flow, Table}
use Rattle.flow.specs.Passing.{CellBelow, CellOk, leaving, Under, Passing, Tightest}
use Rattle.flow.specs.Pass.{Run, settled, changes, met_at, put, put_all, take_with, take_node, take_nodes, pass, before, after_passes, settle_from, settle}
use Rattle.flow.specs.Laws.{Laws, CellReal}
use Rattle.flow.specs.Underway.{Underway, Meetable, LaterRun}
use Rattle.flow.proofs.Cells.{met_at-all, met_at-length, met_at-at, cell_in, cell-ok, cell-refl, cell-trans, met-left, met-right, met-least, met-real, met-still, leaving-monotone}

module _ (F : Flow) (L : Laws F) where
  met_at-in : (T : Table F) (t : ℕ) → length T ≡ F.nodes → t < F.nodes → t < length T
  met_at-in T t e h = omega arith

  pub met_at-grows : (T : Table F) (t : ℕ) (x : F.State) → Underway F L T → Meetable F L t x → Under F T (met_at F T t x)
  met_at-grows T t x f d =
      met_at-all F (λ m c. CellBelow F (cell_at T m) c) T t x (met_at-in T t f.long d.inside) (met-left F L t (cell_at T t) x (f.fine t) d.real) (λ m. cell-refl F L (cell_at T m))

  pub met_at-has : (T : Table F) (t : ℕ) (x : F.State) → Underway F L T → Meetable F L t x → CellBelow F (holds x) (cell_at (met_at F T t x) t)
  met_at-has T t x f d = rw (met_at-at F T t x (met_at-in T t f.long d.inside)) (met-right F L t (cell_at T t) x (f.fine t) d.real)

  pub met_at-underway : (T : Table F) (t : ℕ) (x : F.State) → Underway F L T → Meetable F L t x → Underway F L (met_at F T t x)
  met_at-underway T t x f d = record {
    long = met_at-length F T t x ∙ f.long;
    fine = met_at-all F (λ m c. CellReal F L m c) T t x b (met-real F L t (cell_at T t) x (f.fine t) d.real) f.fine;
    begun = cell-trans F L (holds F.start) (cell_at T F.entry) (cell_at (met_at F T t x) F.entry) f.begun (met_at-grows T t x f d F.entry);
    under = λ P p. met_at-all F (λ m c. CellBelow F c (cell_at P m)) T t x b (met-least F L t (cell_at T t) (cell_at P t) x (f.fine t) (p.fine t) d.real (f.under P p t) (d.below-passing P p)) (f.under P p);
  }
    where
      b : t < length T
      b = met_at-in T t f.long d.inside

  pub met_at-still : (T : Table F) (t : ℕ) (x : F.State) → changes F (cell_at T t) x ≡ false → met_at F T t x ≡ T
  unfolding met_at
  met_at-still T t x e = rw (met-still F L (cell_at T t) x e) (set-get_or T t blank)

  -- what leaves a marked node may be met into each of its targets
  pub step-meetable : (T : Table F) (n : ℕ) (x : F.State) → Underway F L T → cell_at T n ≡ holds x → (t : ℕ) → Among t (F.arrows n) → Meetable F L t (F.step n x)
  step-meetable T n x f e t i = record { inside = L.arrows-in n t b i; real = L.real_step n t x b i o; below-passing = w }
    where
      b : n < F.nodes
      b = let h = cell_in F T n x e in let l = f.long in omega arith

      o : L.Real n x
      o = subst (CellReal F L n) e (f.fine n)

      w : (P : Table F) → Passing F P → CellBelow F (holds (F.step n x)) (cell_at P t)
      w P p = cell-trans F L (leaving F n (holds x)) (leaving F n (cell_at P n)) (cell_at P t) (leaving-monotone F L n (holds x) (cell_at P n) b o (p.fine n) (subst (λ (c : Cell F.State). CellBelow F c (cell_at P n)) e (f.under P p n))) (p.closed n t i)

  or-false : (a b : Bool) → (a || b) ≡ false → (a ≡ false) × (b ≡ false)
  or-false true b e = absurd (true≢false e)
  or-false false b e = (refl, e)

  later_refl : (r : Run F.State) → Underway F L r.table → LaterRun F L r r
  later_refl r f = record { underway = f; grows = λ n. cell-refl F L (cell_at r.table n); still = λ e. (refl, e) }

  later_trans : (r s u : Run F.State) → LaterRun F L r s → LaterRun F L s u → LaterRun F L r u
  later_trans r s u h k = record {
    underway = k.underway;
    grows = λ n. cell-trans F L (cell_at r.table n) (cell_at s.table n) (cell_at u.table n) (h.grows n) (k.grows n);
    still = λ e. ((k.still e).0 ∙ (h.still (k.still e).1).0, (h.still (k.still e).1).1);
  }

  pub put-later : (x : F.State) (t : ℕ) (r : Run F.State) → Underway F L r.table → Meetable F L t x → LaterRun F L r (put F x t r)
  unfolding put
  put-later x t r f d = record {
    underway = met_at-underway r.table t x f d;
    grows = met_at-grows r.table t x f d;
    still = λ e. let o = or-false r.changed (changes F (cell_at r.table t) x) e in (met_at-still r.table t x o.1, o.0);
  }

  pub put_all-later : (x : F.State) (ts : List ℕ) (r : Run F.State) → Underway F L r.table → ((t : ℕ) → Among t ts → Meetable F L t x) → LaterRun F L r (put_all F x ts r)
  unfolding put_all
  put_all-later x [] r f d = later_refl r f
  put_all-later x (t ∷ ts) r f d =
      let h = put-later x t r f (d t (inl refl)) in
      later_trans r (put F x t r) (put_all F x ts (put F x t r)) h (put_all-later x ts (put F x t r) h.underway (λ u i. d u (inr i)))

  pub put_all-has : (x : F.State) (ts : List ℕ) (r : Run F.State) → Underway F L r.table → ((t : ℕ) → Among t ts → Meetable F L t x) → (t : ℕ) → Among t ts
      → CellBelow F (holds x) (cell_at (put_all F x ts r).table t)
  unfolding put_all put
  put_all-has x [] r f d t i = absurd i
  put_all-has x (u ∷ ts) r f d t (inl e) =
      let h = put-later x u r f (d u (inl refl)) in
      let k = put_all-later x ts (put F x u r) h.underway (λ v i. d v (inr i)) in
      cell-trans F L (holds x) (cell_at (put F x u r).table t) (cell_at (put_all F x ts (put F x u r)).table t) (rw e (met_at-has r.table u x f (d u (inl refl)))) (k.grows t)
  put_all-has x (u ∷ ts) r f d t (inr i) = put_all-has x ts (put F x u r) (put-later x u r f (d u (inl refl))).underway (λ v j. d v (inr j)) t i

  take_with-later : (n : ℕ) (c : Cell F.State) (r : Run F.State) → cell_at r.table n ≡ c → Underway F L r.table → LaterRun F L r (take_with F n c r)
  unfolding take_with
  take_with-later n blank r e f = later_refl r f
  take_with-later n (holds x) r e f = put_all-later (F.step n x) (F.arrows n) r f (step-meetable r.table n x f e)

  pub take_node-later : (n : ℕ) (r : Run F.State) → Underway F L r.table → LaterRun F L r (take_node F n r)
  unfolding take_node
  take_node-later n r f = take_with-later n (cell_at r.table n) r refl f

  take_with-has : (n : ℕ) (c : Cell F.State) (r : Run F.State) → cell_at r.table n ≡ c → Underway F L r.table → (t : ℕ) → Among t (F.arrows n)
      → CellBelow F (leaving F n c) (cell_at (take_with F n c r).table t)
  unfolding take_with
  take_with-has n blank r e f t i = tt
  take_with-has n (holds x) r e f t i = put_all-has (F.step n x) (F.arrows n) r f (step-meetable r.table n x f e) t i

  pub take_node-has : (n : ℕ) (r : Run F.State) → Underway F L r.table → (t : ℕ) → Among t (F.arrows n) → CellBelow F (leaving F n (cell_at r.table n)) (cell_at (take_node F n r).table t)
  unfolding take_node
  take_node-has n r f t i = take_with-has n (cell_at r.table n) r refl f t i

  pub take_nodes-later : (k : ℕ) (r : Run F.State) → Underway F L r.table → LaterRun F L r (take_nodes F k r)
  unfolding take_nodes
  take_nodes-later zero r f = later_refl r f
  take_nodes-later (suc k) r f =
      let h = take_nodes-later k r f in
      later_trans r (take_nodes F k r) (take_node F k (take_nodes F k r)) h (take_node-later k (take_nodes F k r) h.underway)

  -- visits that changed nothing have looked at every arrow
  pub take_nodes-closed : (k : ℕ) (r : Run F.State) → Underway F L r.table → (take_nodes F k r).changed ≡ false → (n t : ℕ) → n < k → Among t (F.arrows n)
      → CellBelow F (leaving F n (cell_at r.table n)) (cell_at r.table t)
  unfolding take_nodes
  take_nodes-closed zero r f e n t h i = absurd (omega arith)
  take_nodes-closed (suc k) r f e n t h i = go (ℕ_discrete n k) (λ q l. take_nodes-closed k r f q n t l i)
    where
      a : LaterRun F L r (take_nodes F k r)
      a = take_nodes-later k r f

      b : LaterRun F L (take_nodes F k r) (take_node F k (take_nodes F k r))
      b = take_node-later k (take_nodes F k r) a.underway

      same-tab : (take_node F k (take_nodes F k r)).table ≡ r.table
      same-tab = (b.still e).0 ∙ (a.still (b.still e).1).0

      go : Dec (n ≡ k) → ((take_nodes F k r).changed ≡ false → n < k → CellBelow F (leaving F n (cell_at r.table n)) (cell_at r.table t)) → CellBelow F (leaving F n (cell_at r.table n)) (cell_at r.table t)
      go (yes p) ih = subst (λ (T : Table F). CellBelow F (leaving F n (cell_at r.table n)) (cell_at T t)) same-tab
          (subst (λ (T : Table F). CellBelow F (leaving F n (cell_at T n)) (cell_at (take_node F k (take_nodes F k r)).table t)) (a.still (b.still e).1).0
          (rw p (take_node-has k (take_nodes F k r) a.underway t (rw (← p) i))))
      go (no q) ih = ih (b.still e).1 (omega arith)

  pub pass-underway : (T : Table F) → Underway F L T → Underway F L (pass F T).table
  unfolding pass
  pass-underway T f = (take_nodes-later F.nodes (record { table = T; changed = false }) f).underway

  pub pass-still : (T : Table F) → Underway F L T → (pass F T).changed ≡ false → (pass F T).table ≡ T
  unfolding pass
  pass-still T f e = ((take_nodes-later F.nodes (record { table = T; changed = false }) f).still e).0

  -- 2. A pass that changes nothing: the table passes.
  pub still-passes : (T : Table F) → Underway F L T → (pass F T).changed ≡ false → Passing F T
  unfolding pass
  still-passes T f e = record { long = f.long; fine = λ n. cell-ok F L n (cell_at T n) (f.fine n); begun = f.begun; closed = λ n t i. go n t i (cell_at T n) refl }
    where
      go : (n t : ℕ) → Among t (F.arrows n) → (c : Cell F.State) → cell_at T n ≡ c → CellBelow F (leaving F n (cell_at T n)) (cell_at T t)
      go n t i blank q = rw q tt
      go n t i (holds x) q =
          let b = cell_in F T n x q in
          let l = f.long in
          take_nodes-closed F.nodes (record { table = T; changed = false }) f e n t (omega arith) i

  pub underway-tightest : (T : Table F) → Underway F L T → Passing F T → Tightest F T
  underway-tightest T f p = record { passing = p; least = f.under }

  pub before_at : cell_at (before F) F.entry ≡ holds F.start
  unfolding before
  before_at = get_or-set_same (replicate F.nodes blank) F.entry (holds F.start) blank (rw length-replicate L.entry_inside)

  blanks : (n m : ℕ) → cell_at {X = F.State} (replicate n blank) m ≡ blank
  blanks zero m = refl
  blanks (suc n) zero = refl
  blanks (suc n) (suc m) = blanks n m

  before-other : (m : ℕ) → m ≢ F.entry → cell_at (before F) m ≡ blank
  unfolding before
  before-other m h = get_or-set_other (replicate F.nodes blank) F.entry m (holds F.start) blank h ∙ blanks F.nodes m

  pub before-all : (Q : ℕ → Cell F.State → Type 0) → Q F.entry (holds F.start) → ((m : ℕ) → Q m blank) → (m : ℕ) → Q m (cell_at (before F) m)
  before-all Q a b m = go (ℕ_discrete m F.entry)
    where
      go : Dec (m ≡ F.entry) → Q m (cell_at (before F) m)
      go (yes e) = subst (λ (k : ℕ). Q k (cell_at (before F) k)) (sym e) (rw before_at a)
      go (no h) = rw (before-other m h) (b m)

  before-length : length (before F) ≡ F.nodes
  unfolding before
  before-length = length-set (replicate F.nodes blank) F.entry (holds F.start) ∙ length-replicate F.nodes blank

  pub before-underway : Underway F L (before F)
  before-underway = record {
    long = before-length;
    fine = before-all (λ m c. CellReal F L m c) L.real_start (λ m. tt);
    begun = rw before_at (L.below_refl F.start);
    under = λ P p. before-all (λ m c. CellBelow F c (cell_at P m)) p.begun (λ m. tt);
  }

  -- 1. Every table that passes reach from the first is below every table that passes.
  pub after_passes-underway : (k : ℕ) → Underway F L (after_passes F k)
  unfolding after_passes
  after_passes-underway zero = before-underway
  after_passes-underway (suc k) = pass-underway (after_passes F k) (after_passes-underway k)

  settle_from-tight : (f c : ℕ) (T : Table F) (b : Bool) → Underway F L T → (b ≡ false → Passing F T) → (k : ℕ) (U : Table F) → settle_from F f c T b ≡ settled k U → Tightest F U
  unfolding settle_from
  settle_from-tight zero c T false f p k U e = let q : T ≡ U = cc in subst (Tightest F) q (underway-tightest T f (p refl))
  settle_from-tight zero c T true f p k U e = let z : ◌≡◌ {A = ℕ} 0 1 = cc in absurd (omega arith)
  settle_from-tight (suc n) c T false f p k U e = let q : T ≡ U = cc in subst (Tightest F) q (underway-tightest T f (p refl))
  settle_from-tight (suc n) c T true f p k U e =
      settle_from-tight n (suc c) (pass F T).table (pass F T).changed (pass-underway T f) (λ m. rw (pass-still T f m) (still-passes T f m)) k U e

  -- The settled table is the tightest that passes.
  pub settle-tight : (f k : ℕ) (U : Table F) → settle F f ≡ settled k U → Tightest F U
  unfolding settle
  settle-tight f k U e = settle_from-tight f zero (before F) true before-underway (λ q. absurd (true≢false q)) k U e

  cell-both : (c d : Cell F.State) → CellOk F c → CellOk F d → CellBelow F c d → CellBelow F d c → c ≡ d
  cell-both blank blank o p h k = refl
  cell-both blank (holds b) o p h k = absurd k
  cell-both (holds a) blank o p h k = absurd h
  cell-both (holds a) (holds b) o p h k = ap holds (L.below_both a b o p h k)

  -- There is one tightest table.
  pub tightest-same : (T U : Table F) → Tightest F T → Tightest F U → T ≡ U
  tightest-same T U t u =
      ext_get_or blank T U (t.passing.long ∙ sym u.passing.long)
      (λ n h. cell-both (cell_at T n) (cell_at U n) (t.passing.fine n) (u.passing.fine n) (t.least U u.passing n) (u.least T t.passing n))
