-- What a passing table says is true of a machine at each node of every walk: one touch is shown, and the walk follows.
-- `True a c` is what a state says of a machine's contents.
use mathlib.Core.Bool.{cond}
use mathlib.Core.List.{List, [], ◌∷◌}
use mathlib.Core.Logic.{inl, inr}
use mathlib.Core.Path.{◌≡◌, refl, sym, subst}
use Prim.Native.Nat.{ℕ, ◌<◌}
use native.Mathlib.Omega.{arith}
use borrow.Author.Tests.{ne_eqb}
use lib.Dec.{eqb}
use Rattle.lists.specs.Lists.{Among}
use Rattle.flow.specs.Flow.{Cell, blank, holds, cell_at, Flow, Table}
use Rattle.flow.specs.Passing.{CellBelow, leaving, Passing}
use Rattle.flow.specs.Walk.{Onward, visits_of, in_turn, AtTouches, Machine, AtNodes}
use Rattle.flow.specs.Truths.{Truthful, SaysOf, SaysAt}
use Rattle.flow.proofs.Turns.{in_turn-keeps}

-- ---- the touches of one node

module _ {E S C : Type 0} (touch_s : E → S → S) (touch_c : E → C → C) (True : S → C → Type 0) where
  -- What follows at each touch from a state that is true, where each touch keeps it true.
  pub at-touches : (P : E → S → C → Type 0) (es : List E)
      → ((e : E) → Among e es → (a : S) (c : C) → True a c → True (touch_s e a) (touch_c e c))
      → ((e : E) → Among e es → (a : S) (c : C) → True a c → P e a c)
      → (a : S) (c : C) → True a c → AtTouches touch_s touch_c P es a c
  at-touches P [] keeps each a c r = tt
  at-touches P (e ∷ es) keeps each a c r =
      (each e (inl refl) a c r, at-touches P es (λ k i. keeps k (inr i)) (λ k i. each k (inr i)) (touch_s e a) (touch_c e c) (keeps e (inl refl) a c r))

-- ---- along a walk

module _ (F : Flow) {E : Type 0} (M : Machine E) (touches : ℕ → List E) (after_touch : E → F.State → F.State) (True : F.State → M.Contents → Type 0) where
  module _ (truthful : Truthful F M touches after_touch True) where
    cell-weaker : (x y : Cell F.State) (c : M.Contents) → CellBelow F x y → SaysOf F M True x c → SaysOf F M True y c
    cell-weaker blank y c below says = absurd says
    cell-weaker (holds a) blank c below says = absurd below
    cell-weaker (holds a) (holds b) c below says = truthful.below_true a b c below says

    cell-leaves : (n : ℕ) → n < F.nodes → (x : Cell F.State) (c : M.Contents) → SaysOf F M True x c → SaysOf F M True (leaving F n x) (in_turn M.act (touches n) c)
    cell-leaves n h blank c says = absurd says
    cell-leaves n h (holds a) c says =
        subst (λ (b : F.State). True b (in_turn M.act (touches n) c)) (sym (truthful.step_is n h a))
        (in_turn-keeps after_touch M.act True (touches n) (truthful.one_touch n h) a c says)

    pub walk-true : (table : Table F) → Passing F table → (n : ℕ) (ts : List ℕ) (c : M.Contents)
        → SaysAt F M True table n c → Onward F.arrows n ts → AtNodes M (SaysAt F M True table) touches n ts c
    walk-true table passing n [] c here on = here
    walk-true table passing n (t ∷ ts) c here on = (here, walk-true table passing t ts (in_turn M.act (touches n) c) next on.1)
      where
        next : SaysAt F M True table t (in_turn M.act (touches n) c)
        next =
            record {
              inside = truthful.arrows-in n t here.inside on.0;
              cell-says = cell-weaker (leaving F n (cell_at table n)) (cell_at table t) (in_turn M.act (touches n) c) (passing.closed n t on.0) (cell-leaves n here.inside (cell_at table n) c here.cell-says);
            }

    -- Rule 7.5, along a walk: where the start is true of the contents, so is the entry's row.
    pub walk_begins : (table : Table F) → Passing F table → F.entry < F.nodes → (c : M.Contents) → True F.start c → SaysAt F M True table F.entry c
    walk_begins table passing inside c says =
        record { inside = inside; cell-says = cell-weaker (holds F.start) (cell_at table F.entry) c passing.begun says }

-- ---- what holds at each node

module _ {E : Type 0} (M : Machine E) (touches : ℕ → List E) (P Q : ℕ → M.Contents → Type 0) where
  pub at-nodes : ((n : ℕ) (c : M.Contents) → P n c → Q n c) → (n : ℕ) (ts : List ℕ) (c : M.Contents) → AtNodes M P touches n ts c → AtNodes M Q touches n ts c
  at-nodes each n [] c p = each n c p
  at-nodes each n (t ∷ ts) c p = (each n c p.0, at-nodes each t ts (in_turn M.act (touches n) c) p.1)

-- What two facts give at each node.
module _ {E : Type 0} (M : Machine E) (touches : ℕ → List E) (P Q R : ℕ → M.Contents → Type 0) where
  pub at-nodes-both : ((n : ℕ) (c : M.Contents) → P n c → Q n c → R n c)
      → (n : ℕ) (ts : List ℕ) (c : M.Contents) → AtNodes M P touches n ts c → AtNodes M Q touches n ts c → AtNodes M R touches n ts c
  at-nodes-both each n [] c p q = each n c p q
  at-nodes-both each n (t ∷ ts) c p q =
      (each n c p.0 q.0, at-nodes-both each t ts (in_turn M.act (touches n) c) p.1 q.1)

-- A walk does not visit a node where what holds at each of its nodes cannot.
module _ {E : Type 0} (M : Machine E) (touches : ℕ → List E) (P : ℕ → M.Contents → Type 0) (k : ℕ) (never : (c : M.Contents) → P k c → ⊥) where
  elsewhere : (n : ℕ) (c : M.Contents) → P n c → ◌≡◌ {A = ℕ} (cond (eqb n k) 1 0) 0
  elsewhere n c p = rw (ne_eqb n k (λ e. never c (subst (λ (j : ℕ). P j c) e p)))

  pub visits_of-zero : (n : ℕ) (ts : List ℕ) (c : M.Contents) → AtNodes M P touches n ts c → visits_of k (n ∷ ts) ≡ 0
  visits_of-zero n [] c p = let here = elsewhere n c p in omega arith
  visits_of-zero n (t ∷ ts) c p =
      let here = elsewhere n c p.0 in
      let rest = visits_of-zero t ts (in_turn M.act (touches n) c) p.1 in
      omega arith
