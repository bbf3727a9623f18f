-- What a machine pays along a walk lies between what each visit is said to cost at least and at most, times its visits.
use mathlib.Core.Bool.{Bool, true, false, cond}
use mathlib.Core.List.{List, [], ◌∷◌}
use mathlib.Core.Path.{◌≡◌, refl, sym, ap, ◌∙◌}
use Prim.Native.Nat.{ℕ, ◌+◌, ◌*◌, ◌≤◌, ◌<◌, zero-le}
use native.Mathlib.Nat.{add-le-add, add-mul, zero-mul, mul-zero, mul-add, mul-le-mul_right}
use native.Mathlib.Omega.{arith}
use lib.Dec.{eqb}
use Rattle.lists.specs.Lists.{sum_of}
use Rattle.lists.proofs.Sums.{sum_both, sum-equal, sum-most, sum-pick, sum-monotone}
use Rattle.flow.specs.Walk.{visits_of, in_turn, Machine, paid_at, paid, AtNodes, sum_along}

-- The sum over the nodes of a walk, one after the other.
abbrev pub along : (ℕ → ℕ) → List ℕ → ℕ
along cost [] = 0
along cost (n ∷ ns) = cost n + along cost ns

-- ---- where both costs are k times as high, k times as much is paid

module _ {E : Type 0} (M : Machine E) (k hit miss : ℕ) where
  paid-at-scales : (es : List E) (c : M.Contents) → paid_at M (k * hit) (k * miss) es c ≡ k * paid_at M hit miss es c
  paid-at-scales [] c = sym (mul-zero k)
  paid-at-scales (e ∷ es) c = go (M.finds e c) (paid-at-scales es (M.act e c))
    where
      go : (t : Bool) → paid_at M (k * hit) (k * miss) es (M.act e c) ≡ k * paid_at M hit miss es (M.act e c)
          → cond t (k * hit) (k * miss) + paid_at M (k * hit) (k * miss) es (M.act e c) ≡ k * (cond t hit miss + paid_at M hit miss es (M.act e c))
      go true rest = ap (λ (x : ℕ). k * hit + x) rest ∙ sym (mul-add k hit _)
      go false rest = ap (λ (x : ℕ). k * miss + x) rest ∙ sym (mul-add k miss _)

  pub paid-scales : (touches : ℕ → List E) (n : ℕ) (ts : List ℕ) (c : M.Contents) → paid M (k * hit) (k * miss) touches n ts c ≡ k * paid M hit miss touches n ts c
  paid-scales touches n [] c = paid-at-scales (touches n) c
  paid-scales touches n (t ∷ ts) c =
      let here = paid-at-scales (touches n) c in
      let rest = paid-scales touches t ts (in_turn M.act (touches n) c) in
      (λ i. here i + rest i) ∙ sym (mul-add k _ _)

-- ---- the machine's cost, node by node

module _ {E : Type 0} (M : Machine E) (hit miss : ℕ) (touches : ℕ → List E) (P : ℕ → M.Contents → Type 0) (cost : ℕ → ℕ) where
  paid-least : ((n : ℕ) (c : M.Contents) → P n c → cost n ≤ paid_at M hit miss (touches n) c)
      → (n : ℕ) (ts : List ℕ) (c : M.Contents) → AtNodes M P touches n ts c → along cost (n ∷ ts) ≤ paid M hit miss touches n ts c
  paid-least each n [] c p = omega (arith, each n c p)
  paid-least each n (t ∷ ts) c p =
      add-le-add (each n c p.0) (paid-least each t ts (in_turn M.act (touches n) c) p.1)

  -- With what each visit may cost beyond that.
  paid-most : (extra : ℕ → M.Contents → ℕ)
      → ((n : ℕ) (c : M.Contents) → P n c → paid_at M hit miss (touches n) c ≤ cost n + extra n c)
      → (n : ℕ) (ts : List ℕ) (c : M.Contents) → AtNodes M P touches n ts c → paid M hit miss touches n ts c ≤ along cost (n ∷ ts) + sum_along M extra touches n ts c
  paid-most extra each n [] c p = omega (arith, each n c p)
  paid-most extra each n (t ∷ ts) c p =
      omega (arith, each n c p.0, paid-most extra each t ts (in_turn M.act (touches n) c) p.1)

-- ---- sums along a walk

module _ {E : Type 0} (M : Machine E) (touches : ℕ → List E) where
  along-none : (n : ℕ) (ts : List ℕ) (c : M.Contents) → sum_along M (λ k d. 0) touches n ts c ≡ 0
  along-none n [] c = refl
  along-none n (t ∷ ts) c = let rest = along-none t ts (in_turn M.act (touches n) c) in omega arith

  pub along-scales : (k : ℕ) (f : ℕ → M.Contents → ℕ) (n : ℕ) (ts : List ℕ) (c : M.Contents) → sum_along M (λ m d. k * f m d) touches n ts c ≡ k * sum_along M f touches n ts c
  along-scales k f n [] c = refl
  along-scales k f n (t ∷ ts) c =
      ap (λ (x : ℕ). k * f n c + x) (along-scales k f t ts (in_turn M.act (touches n) c)) ∙ sym (mul-add k _ _)

  -- Sums of sums, the other way round.
  pub along-sums : (count : ℕ) (f : ℕ → ℕ → M.Contents → ℕ) (n : ℕ) (ts : List ℕ) (c : M.Contents)
      → sum_along M (λ m d. sum_of count (λ i. f i m d)) touches n ts c ≡ sum_of count (λ i. sum_along M (f i) touches n ts c)
  along-sums count f n [] c = refl
  along-sums count f n (t ∷ ts) c =
      let rest = along-sums count f t ts (in_turn M.act (touches n) c) in
      let both = sum_both count (λ i. f i n c) (λ i. sum_along M (f i) touches t ts (in_turn M.act (touches n) c)) in
      omega arith

  module _ (P : ℕ → M.Contents → Type 0) (f g : ℕ → M.Contents → ℕ) where
    pub along-monotone : ((n : ℕ) (c : M.Contents) → P n c → f n c ≤ g n c) → (n : ℕ) (ts : List ℕ) (c : M.Contents) → AtNodes M P touches n ts c → sum_along M f touches n ts c ≤ sum_along M g touches n ts c
    along-monotone each n [] c p = each n c p
    along-monotone each n (t ∷ ts) c p = add-le-add (each n c p.0) (along-monotone each t ts (in_turn M.act (touches n) c) p.1)

-- ---- each node times its visits

abbrev pub AllBelow : ℕ → List ℕ → Type 0
AllBelow nodes [] = Unit {0}
AllBelow nodes (n ∷ ns) = (n < nodes) × AllBelow nodes ns

pub along-visits : (nodes : ℕ) (cost : ℕ → ℕ) (ns : List ℕ) → AllBelow nodes ns → along cost ns ≡ sum_of nodes (λ n. visits_of n ns * cost n)
along-visits nodes cost [] inside = sym (sum-equal nodes (λ n. 0 * cost n) (λ n. 0) (λ n h. zero-mul (cost n)) ∙ (omega (arith, sum-most nodes 0 (λ n. 0) (λ n h. zero-le))))
along-visits nodes cost (k ∷ ns) inside =
    let rest = along-visits nodes cost ns inside.1 in
    let here = sum-pick nodes k cost inside.0 in
    let both = sum_both nodes (λ n. cond (eqb k n) 1 0 * cost n) (λ n. visits_of n ns * cost n) in
    let shared = sum-equal nodes (λ n. (cond (eqb k n) 1 0 + visits_of n ns) * cost n) (λ n. cond (eqb k n) 1 0 * cost n + visits_of n ns * cost n) (λ n h. add-mul (cond (eqb k n) 1 0) (visits_of n ns) (cost n)) in
    omega arith

-- ---- visits between floors and ceilings

module _ {E : Type 0} (M : Machine E) (hit miss : ℕ) (touches : ℕ → List E) (P : ℕ → M.Contents → Type 0) (cost : ℕ → ℕ)
    (nodes : ℕ) (inside : (n : ℕ) (c : M.Contents) → P n c → n < nodes) where
  walk-below : (n : ℕ) (ts : List ℕ) (c : M.Contents) → AtNodes M P touches n ts c → AllBelow nodes (n ∷ ts)
  walk-below n [] c p = (inside n c p, tt)
  walk-below n (t ∷ ts) c p = (inside n c p.0, walk-below t ts (in_turn M.act (touches n) c) p.1)

  module _ (n : ℕ) (ts : List ℕ) (c : M.Contents) (at : AtNodes M P touches n ts c) (bound : ℕ → ℕ) where
    -- Floors times what each visit costs at least: no more than what is paid.
    pub floors-below : ((k : ℕ) (x : M.Contents) → P k x → cost k ≤ paid_at M hit miss (touches k) x)
        → ((k : ℕ) → k < nodes → bound k ≤ visits_of k (n ∷ ts))
        → sum_of nodes (λ k. bound k * cost k) ≤ paid M hit miss touches n ts c
    floors-below each no_less =
        omega (arith, sum-monotone nodes (λ k. bound k * cost k) (λ k. visits_of k (n ∷ ts) * cost k) (λ k h. mul-le-mul_right (cost k) (no_less k h)), along-visits nodes cost (n ∷ ts) (walk-below n ts c at), paid-least M hit miss touches P cost each n ts c at)

    -- Ceilings times what each visit costs at most, and what visits may cost beyond that: no less than what is paid.
    pub ceilings-beyond : (extra : ℕ → M.Contents → ℕ)
        → ((k : ℕ) (x : M.Contents) → P k x → paid_at M hit miss (touches k) x ≤ cost k + extra k x)
        → ((k : ℕ) → k < nodes → visits_of k (n ∷ ts) ≤ bound k)
        → paid M hit miss touches n ts c ≤ sum_of nodes (λ k. bound k * cost k) + sum_along M extra touches n ts c
    ceilings-beyond extra each no_more =
        omega (arith, sum-monotone nodes (λ k. visits_of k (n ∷ ts) * cost k) (λ k. bound k * cost k) (λ k h. mul-le-mul_right (cost k) (no_more k h)), along-visits nodes cost (n ∷ ts) (walk-below n ts c at), paid-most M hit miss touches P cost extra each n ts c at)

    -- The same with nothing beyond.
    pub ceilings-above : ((k : ℕ) (x : M.Contents) → P k x → paid_at M hit miss (touches k) x ≤ cost k)
        → ((k : ℕ) → k < nodes → visits_of k (n ∷ ts) ≤ bound k)
        → paid M hit miss touches n ts c ≤ sum_of nodes (λ k. bound k * cost k)
    ceilings-above each no_more =
        omega (arith, ceilings-beyond (λ k x. 0) (λ k x p. omega (arith, each k x p)) no_more, along-none M touches n ts c)
