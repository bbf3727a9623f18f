-- How many touches of a walk pass a test: none if none does at any node, and no more than are left by a note of the touches made.
use Prim.Native.Nat.{ℕ, ◌+◌, ◌≤◌}
use mathlib.Core.Bool.{Bool, false, cond}
use mathlib.Core.List.{List, [], ◌∷◌}
use mathlib.Core.Logic.{inl, inr}
use mathlib.Core.Path.{◌≡◌, refl, subst}
use native.Mathlib.Omega.{arith}
use Rattle.lists.specs.Lists.{Among}
use Rattle.flow.specs.Walk.{in_turn, AtTouches, count_at, Machine, AtNodes, count_along}
use Rattle.machine.specs.Noted.{noting}

-- ---- none

-- At a node where no touch passes.
pub count-at-none : {E S C : Type 0} (step_s : E → S → S) (step_c : E → C → C) (test : E → S → C → Bool) (es : List E) (s : S) (c : C)
    → AtTouches step_s step_c (λ e a x. test e a x ≡ false) es s c → count_at step_s step_c test es s c ≡ 0
count-at-none step_s step_c test [] s c none = refl
count-at-none step_s step_c test (e ∷ es) s c none =
    let rest = count-at-none step_s step_c test es (step_s e s) (step_c e c) none.1 in
    rw none.0 (omega arith)

-- Along a walk with no such touch at any of its nodes.
pub count_none : {E S : Type 0} (M : Machine E) (step_s : E → S → S) (test : E → S → M.Contents → Bool) (touches : ℕ → List E) (states : ℕ → S)
    (n : ℕ) (ts : List ℕ) (c : M.Contents)
    → AtNodes M (λ k x. count_at step_s M.act test (touches k) (states k) x ≡ 0) touches n ts c → count_along M step_s test touches states n ts c ≡ 0
count_none M step_s test touches states n [] c none = none
count_none M step_s test touches states n (t ∷ ts) c none =
    let rest = count_none M step_s test touches states t ts (in_turn M.act (touches n) c) none.1 in
    let here = none.0 in
    omega arith

-- ---- no more than are left

-- Two actions side by side, in turn.
turns-both : {E X Y : Type 0} (f : E → X → X) (g : E → Y → Y) (es : List E) (x : X × Y)
    → in_turn (λ e z. (f e z.0, g e z.1)) es x ≡ (in_turn f es x.0, in_turn g es x.1)
turns-both f g [] x = refl
turns-both f g (e ∷ es) x = turns-both f g es (f e x.0, g e x.1)

module _ {E S N : Type 0} (M : Machine E) (step_s : E → S → S) (test : E → S → M.Contents → Bool) (note : E → N → N) (left : N → ℕ) where
  -- A touch that passes leaves one less, and none leaves more.
  abbrev pub Spends : E → S → M.Contents × N → Type 0
  Spends e s x = cond (test e s x.0) 1 0 + left (note e x.1) ≤ left x.1

  -- At a node.
  pub count-at-left : (True : S → M.Contents × N → Type 0) (es : List E)
      → ((e : E) → Among e es → (s : S) (x : M.Contents × N) → True s x → True (step_s e s) ((noting M note).act e x))
      → ((e : E) → Among e es → (s : S) (x : M.Contents × N) → True s x → Spends e s x)
      → (s : S) (x : M.Contents × N) → True s x
      → count_at step_s M.act test es s x.0 + left (in_turn note es x.1) ≤ left x.1
  count-at-left True [] keeps spends s x says = omega arith
  count-at-left True (e ∷ es) keeps spends s x says =
      let here = spends e (inl refl) s x says in
      let after = keeps e (inl refl) s x says in
      let rest = count-at-left True es (λ k i. keeps k (inr i)) (λ k i. spends k (inr i)) (step_s e s) ((noting M note).act e x) after in
      omega arith

  module _ (touches : ℕ → List E) (states : ℕ → S) where
    -- At node n: what is counted there, and what is left after it, are no more than was left before.
    abbrev pub SpendsAt : ℕ → M.Contents × N → Type 0
    SpendsAt n x = count_at step_s M.act test (touches n) (states n) x.0 + left (in_turn note (touches n) x.1) ≤ left x.1

    -- Along a walk.
    pub count_left : (n : ℕ) (ts : List ℕ) (x : M.Contents × N) → AtNodes (noting M note) SpendsAt touches n ts x
        → count_along M step_s test touches states n ts x.0 ≤ left x.1
    count_left n [] x at_each = omega arith
    count_left n (t ∷ ts) x at_each =
        let here = at_each.0 in
        let after = subst (λ (y : M.Contents × N). AtNodes (noting M note) SpendsAt touches t ts y) (turns-both M.act note (touches n) x) at_each.1 in
        let rest = count_left t ts (in_turn M.act (touches n) x.0, in_turn note (touches n) x.1) after in
        omega arith
