-- Passes end: with a height that grows with each change and is bounded, an allowance of nodes * (1 + bound) + 1 settles.
-- And what the outcome of a settling says of the passes made.
use mathlib.Core.Path.{◌≡◌, refl, sym, ap, ◌∙◌, subst}
use mathlib.Core.Bool.{Bool, true, false, true≢false}
use mathlib.Core.List.{List, [], ◌∷◌}
use mathlib.Core.Logic.{inl, inr}
use Prim.Native.Nat.{ℕ, zero, suc, ◌+◌, ◌*◌, ◌≤◌, ◌<◌}
use native.Mathlib.Omega.{arith}
use borrow.Author.Tests.{not-true}
use native.Mathlib.Decide.{ℕ_discrete}
use lib.ListN.{length, set}
use Rattle.flow.proofs.Settling.{met_at-still, step-meetable, put-later, take_nodes-later, pass-underway, before-underway}
use Rattle.lists.specs.Lists.{Among}
use Rattle.flow.specs.Flow.{Cell, blank, holds, cell_at, Flow, Table}
use Rattle.flow.specs.Pass.{Run, settled, spent, met, changes, met_at, put, put_all, take_with, take_node, take_nodes, pass, before, after_passes, settle_from, settle}
use Rattle.flow.specs.Laws.{Laws, Height, CellReal}
use Rattle.flow.specs.Underway.{Underway, Meetable, pass_changes, SettledAfter}

-- A settling whose last pass changed nothing is done.
module _ (F : Flow) where
  pub settle_from-done : (f c : ℕ) (T : Table F) → settle_from F f c T false ≡ settled c T
  unfolding settle_from
  settle_from-done zero c T = refl
  settle_from-done (suc f) c T = refl

module _ (F : Flow) (L : Laws F) (H : Height F L) where
  abbrev cell_height : Cell F.State → ℕ
  cell_height blank = zero
  cell_height (holds x) = suc (H.height x)

  abbrev tab_height : List (Cell F.State) → ℕ
  tab_height [] = zero
  tab_height (c ∷ T) = cell_height c + tab_height T

  height-set : (T : List (Cell F.State)) (t : ℕ) (v : Cell F.State) → t < length T → tab_height (set T t v) + cell_height (cell_at T t) ≡ tab_height T + cell_height v
  height-set [] t v h = absurd (omega arith)
  height-set (c ∷ T) zero v h = omega arith
  height-set (c ∷ T) (suc t) v h = let ih = height-set T t v (omega arith) in omega arith

  cell-bound : (n : ℕ) (c : Cell F.State) → CellReal F L n c → cell_height c ≤ suc H.bound
  cell-bound n blank o = omega arith
  cell-bound n (holds x) o = omega (arith, H.bounded n x o)

  tab-bound : (k : ℕ) (T : List (Cell F.State)) → ((n : ℕ) → CellReal F L (k + n) (cell_at T n)) → tab_height T ≤ length T * suc H.bound
  tab-bound k [] o = omega arith
  tab-bound k (c ∷ T) o =
      let h = cell-bound (k + zero) c (o zero) in
      let ih = tab-bound (suc k) T (λ n. let e : suc k + n ≡ k + suc n = omega arith in rw e (o (suc n))) in
      omega arith

  meet-height : (n : ℕ) (c : Cell F.State) (x : F.State) → CellReal F L n c → L.Real n x → changes F c x ≡ true → cell_height c < cell_height (met F c x)
  unfolding met changes
  meet-height n blank x o p e = omega arith
  meet-height n (holds a) x o p e = let g = H.grows n a x o p (not-true (F.same (F.meet a x) a) e) in omega arith

module _ (F : Flow) (L : Laws F) (H : Height F L) where
  underway-bound : (T : Table F) → Underway F L T → tab_height F L H T ≤ F.nodes * suc H.bound
  underway-bound T f = subst (λ (n : ℕ). tab_height F L H T ≤ n * suc H.bound) f.long (tab-bound F L H zero T (λ n. let e : zero + n ≡ n = omega arith in rw e (f.fine n)))

  met_at-height : (T : Table F) (t : ℕ) (x : F.State) → Underway F L T → Meetable F L t x → changes F (cell_at T t) x ≡ true → tab_height F L H T < tab_height F L H (met_at F T t x)
  unfolding met_at
  met_at-height T t x f d e =
      let l = f.long in
      let i = d.inside in
      let b : t < length T = omega arith in
      let g = meet-height F L H t (cell_at T t) x (f.fine t) d.real e in
      let s = height-set F L H T t (met F (cell_at T t) x) b in
      omega arith

  -- from one run to a later one: the height does not fall, and where something has changed since it has grown
  record Up (r s : Run F.State) : Type 0 where
    up : tab_height F L H r.table ≤ tab_height F L H s.table
    strict : s.changed ≡ true → r.changed ≡ false → tab_height F L H r.table < tab_height F L H s.table

  up-refl : (r : Run F.State) → Up r r
  up-refl r = record { up = omega arith; strict = λ e g. absurd (true≢false (sym e ∙ g)) }

  up-trans : (r s u : Run F.State) → Up r s → Up s u → Up r u
  up-trans r s u h k = record { up = omega arith; strict = λ e g. go s.changed refl e g }
    where
      go : (b : Bool) → s.changed ≡ b → u.changed ≡ true → r.changed ≡ false → tab_height F L H r.table < tab_height F L H u.table
      go true q e g = let a = h.strict q g in omega arith
      go false q e g = let a = k.strict e q in omega arith

  put_up : (x : F.State) (t : ℕ) (r : Run F.State) → Underway F L r.table → Meetable F L t x → Up r (put F x t r)
  unfolding put
  put_up x t r f d = go (changes F (cell_at r.table t) x) refl
    where
      go : (b : Bool) → changes F (cell_at r.table t) x ≡ b → Up r (put F x t r)
      go true e = let h = met_at-height r.table t x f d e in record { up = omega arith; strict = λ p q. h }
      go false e = record {
        up = rw (met_at-still F L r.table t x e) (omega arith);
        strict = λ p q. absurd (true≢false (sym p ∙ (rw (q, e) refl)));
      }

  put_all-up : (x : F.State) (ts : List ℕ) (r : Run F.State) → Underway F L r.table → ((t : ℕ) → Among t ts → Meetable F L t x) → Up r (put_all F x ts r)
  unfolding put_all
  put_all-up x [] r f d = up-refl r
  put_all-up x (t ∷ ts) r f d =
      up-trans r (put F x t r) (put_all F x ts (put F x t r)) (put_up x t r f (d t (inl refl)))
      (put_all-up x ts (put F x t r) (put-later F L x t r f (d t (inl refl))).underway (λ u i. d u (inr i)))

  take_with-up : (n : ℕ) (c : Cell F.State) (r : Run F.State) → cell_at r.table n ≡ c → Underway F L r.table → Up r (take_with F n c r)
  unfolding take_with
  take_with-up n blank r e f = up-refl r
  take_with-up n (holds x) r e f = put_all-up (F.step n x) (F.arrows n) r f (step-meetable F L r.table n x f e)

  take_node-up : (n : ℕ) (r : Run F.State) → Underway F L r.table → Up r (take_node F n r)
  unfolding take_node
  take_node-up n r f = take_with-up n (cell_at r.table n) r refl f

  take_nodes-up : (k : ℕ) (r : Run F.State) → Underway F L r.table → Up r (take_nodes F k r)
  unfolding take_nodes
  take_nodes-up zero r f = up-refl r
  take_nodes-up (suc k) r f = up-trans r (take_nodes F k r) (take_node F k (take_nodes F k r)) (take_nodes-up k r f) (take_node-up k (take_nodes F k r) (take_nodes-later F L k r f).underway)

  pass_up : (T : Table F) → Underway F L T → (pass F T).changed ≡ true → tab_height F L H T < tab_height F L H (pass F T).table
  unfolding pass
  pass_up T f e = (take_nodes-up F.nodes (record { table = T; changed = false }) f).strict e refl

  settle_from-ends : (f c : ℕ) (T : Table F) (b : Bool) → Underway F L T → (b ≡ true → F.nodes * suc H.bound < f + tab_height F L H T)
      → (k : ℕ) × (U : Table F) × (settle_from F f c T b ≡ settled k U)
  unfolding settle_from
  settle_from-ends zero c T false f h = (c, T, refl)
  settle_from-ends zero c T true f h = let b = underway-bound T f in let g = h refl in absurd (omega arith)
  settle_from-ends (suc n) c T false f h = (c, T, refl)
  settle_from-ends (suc n) c T true f h =
      settle_from-ends n (suc c) (pass F T).table (pass F T).changed (pass-underway F L T f) (λ e. let u = pass_up T f e in let g = h refl in omega arith)

  -- 3. An allowance above nodes * (1 + bound) settles.
  pub settle-ends : (f : ℕ) → F.nodes * suc H.bound < f → (k : ℕ) × (U : Table F) × (settle F f ≡ settled k U)
  unfolding settle
  settle-ends f h = settle_from-ends f zero (before F) true (before-underway F L) (λ e. omega arith)

  settle_from-count : (f c : ℕ) (T : Table F) (b : Bool) → Underway F L T → (k : ℕ) (U : Table F) → settle_from F f c T b ≡ settled k U
      → k + tab_height F L H T ≤ c + F.nodes * suc H.bound + 1
  unfolding settle_from
  settle_from-count zero c T false f k U e = let q : c ≡ k = cc in let h = underway-bound T f in omega arith
  settle_from-count zero c T true f k U e = let z : ◌≡◌ {A = ℕ} 0 1 = cc in absurd (omega arith)
  settle_from-count (suc n) c T false f k U e = let q : c ≡ k = cc in let h = underway-bound T f in omega arith
  settle_from-count (suc n) c T true f k U e = go (pass F T).changed refl (settle_from-count n (suc c) (pass F T).table (pass F T).changed (pass-underway F L T f) k U e)
    where
      go : (b : Bool) → (pass F T).changed ≡ b → k + tab_height F L H (pass F T).table ≤ suc c + F.nodes * suc H.bound + 1 → k + tab_height F L H T ≤ c + F.nodes * suc H.bound + 1
      go true q h = let u = pass_up T f q in omega arith
      go false q h =
          let g : settle_from F n (suc c) (pass F T).table (pass F T).changed ≡ settled k U = e in
          let s = settle_from-done F n (suc c) (pass F T).table in
          let r : settle_from F n (suc c) (pass F T).table false ≡ settled k U = rw q at g in
          let p : suc c ≡ k = cc in
          let m = underway-bound T f in
          omega arith

  -- No settling takes more passes than that.
  pub settle-count : (f k : ℕ) (U : Table F) → settle F f ≡ settled k U → k ≤ F.nodes * suc H.bound + 1
  unfolding settle
  settle-count f k U e = let h = settle_from-count f zero (before F) true (before-underway F L) k U e in omega arith

-- What an outcome says of the passes made.
module _ (F : Flow) where
  done-after : (f c : ℕ) (T : Table F) → T ≡ after_passes F c → ((j : ℕ) → suc j ≡ c → pass_changes F j ≡ false) → ((j : ℕ) → suc j < c → pass_changes F j ≡ true)
      → (k : ℕ) (U : Table F) → settled c T ≡ settled k U → c ≤ f → SettledAfter F f k U
  done-after f c T t l b k U e h =
      let p : c ≡ k = cc in
      let q : U ≡ after_passes F k = cc in
      record { within = omega arith; table = q; last = λ j s. l j (omega arith); earlier = λ j s. b j (omega arith) }

  earlier : (c : ℕ) → ((j : ℕ) → suc j ≡ c → pass_changes F j ≡ true) → ((j : ℕ) → suc j < c → pass_changes F j ≡ true) → (j : ℕ) → suc j < suc c → pass_changes F j ≡ true
  earlier c l b j s = go (ℕ_discrete (suc j) c)
    where
      go : Dec (suc j ≡ c) → pass_changes F j ≡ true
      go (yes p) = l j p
      go (no q) = b j (omega arith)

  at_next : (T : Table F) (c : ℕ) → T ≡ after_passes F c → (j : ℕ) → suc j ≡ suc c → pass_changes F j ≡ (pass F T).changed
  at_next T c t j s = let p : j ≡ c = omega arith in ap (λ (i : ℕ). (pass F (after_passes F i)).changed) p ∙ ap (λ (S : Table F). (pass F S).changed) (sym t)

  settle_from-after : (f c : ℕ) (T : Table F) (b : Bool) → T ≡ after_passes F c → ((j : ℕ) → suc j ≡ c → pass_changes F j ≡ b) → ((j : ℕ) → suc j < c → pass_changes F j ≡ true)
      → (k : ℕ) (U : Table F) → settle_from F f c T b ≡ settled k U → SettledAfter F (c + f) k U
  unfolding settle_from after_passes
  settle_from-after zero c T false t l b k U e = done-after (c + zero) c T t l b k U e (omega arith)
  settle_from-after zero c T true t l b k U e = let z : ◌≡◌ {A = ℕ} 0 1 = cc in absurd (omega arith)
  settle_from-after (suc n) c T false t l b k U e = done-after (c + suc n) c T t l b k U e (omega arith)
  settle_from-after (suc n) c T true t l b k U e =
      let w : c + suc n ≡ suc c + n = omega arith in
      rw w (settle_from-after n (suc c) (pass F T).table (pass F T).changed (ap (λ (S : Table F). (pass F S).table) t) (at_next T c t) (earlier c l b) k U e)

  pub settle-after : (f k : ℕ) (U : Table F) → settle F f ≡ settled k U → SettledAfter F f k U
  unfolding settle after_passes
  settle-after f k U e =
      let w : f ≡ zero + f = omega arith in
      rw w (settle_from-after f zero (before F) true refl (λ j s. absurd (omega arith)) (λ j s. absurd (omega arith)) k U e)

  settle_from-spends : (f c : ℕ) (T : Table F) (b : Bool) → T ≡ after_passes F c → ((j : ℕ) → suc j ≡ c → pass_changes F j ≡ b) → ((j : ℕ) → suc j < c → pass_changes F j ≡ true)
      → settle_from F f c T b ≡ spent → (j : ℕ) → j < c + f → pass_changes F j ≡ true
  unfolding settle_from after_passes
  settle_from-spends zero c T false t l b e j h = let z : ◌≡◌ {A = ℕ} 0 1 = cc in absurd (omega arith)
  settle_from-spends zero c T true t l b e j h = earlier c l b j (omega arith)
  settle_from-spends (suc n) c T false t l b e j h = let z : ◌≡◌ {A = ℕ} 0 1 = cc in absurd (omega arith)
  settle_from-spends (suc n) c T true t l b e j h =
      settle_from-spends n (suc c) (pass F T).table (pass F T).changed (ap (λ (S : Table F). (pass F S).table) t) (at_next T c t) (earlier c l b) e j (omega arith)

  pub settle-spends : (f : ℕ) → settle F f ≡ spent → (j : ℕ) → j < f → pass_changes F j ≡ true
  unfolding settle after_passes
  settle-spends f e j h = settle_from-spends f zero (before F) true refl (λ i s. absurd (omega arith)) (λ i s. absurd (omega arith)) e j (omega arith)
