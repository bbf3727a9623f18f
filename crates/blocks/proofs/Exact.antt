-- The list of blocks has each block that is touched, and no other.
use Prim.Native.Nat.{ℕ, zero, suc, ◌≤◌, ◌<◌}
use mathlib.Core.List.{List, [], ◌∷◌}
use mathlib.Core.Logic.{◌⊎◌, inl, inr, ⊎_elim}
use mathlib.Core.Path.{◌≡◌, refl, subst}
use native.Mathlib.Decide.{ℕ_discrete}
use native.Mathlib.Omega.{arith}
use lib.ListN.{length, get_or}
use Rattle.lists.specs.Lists.{Among}
use Rattle.blocks.specs.Blocks.{insert, insert_all, gathered, place_in}
use Rattle.blocks.proofs.Insertion.{insert-cases, asc-gathered}
use Rattle.blocks.proofs.Placed.{placed-gathered}
use Rattle.blocks.specs.Exactly.{Exactly}

-- What stands at a place of a list is among it.
among-at : (l : List ℕ) (i : ℕ) → i < length l → Among (get_or l i 0) l
among-at [] i h = absurd (omega arith)
among-at (x ∷ l) zero h = inl refl
among-at (x ∷ l) (suc i) h = inr (among-at l i (omega arith))

-- A block of the list after another was put in is that other, or was there.
insert-only : (b c : ℕ) (l : List ℕ) → Among b (insert c l) → (b ≡ c) ⊎ Among b l
insert-only b c [] (inl e) = inl e
insert-only b c [] (inr i) = absurd i
insert-only b c (x ∷ l) i =
    let rest = insert-only b c l in
    insert-cases (λ (m : List ℕ). Among b m → (b ≡ c) ⊎ Among b (x ∷ l)) c x l (λ h. past rest) (λ h j. inr j) (λ h j. j) i
  where
    past : (Among b (insert c l) → (b ≡ c) ⊎ Among b l) → Among b (x ∷ insert c l) → (b ≡ c) ⊎ Among b (x ∷ l)
    past rest (inl e) = inr (inl e)
    past rest (inr i) = ⊎_elim (λ e. inl e) (λ j. inr (inr j)) (rest i)

insert-all-only : (b : ℕ) (cs l : List ℕ) → Among b (insert_all cs l) → Among b cs ⊎ Among b l
insert-all-only b [] l i = inr i
insert-all-only b (c ∷ cs) l i =
    ⊎_elim (λ j. inl (inr j)) (λ j. ⊎_elim (λ e. inl (inl e)) (λ k. inr k) (insert-only b c l j)) (insert-all-only b cs (insert c l) i)

module _ (touches_at : ℕ → List ℕ) where
  gathered-only : (nodes b : ℕ) → Among b (gathered touches_at nodes) → (n : ℕ) × (n < nodes) × Among b (touches_at n)
  unfolding gathered
  gathered-only zero b i = absurd i
  gathered-only (suc nodes) b i =
      ⊎_elim here (λ j. before (gathered-only nodes b j)) (insert-all-only b (touches_at nodes) (gathered touches_at nodes) i)
    where
      here : Among b (touches_at nodes) → (n : ℕ) × (n < suc nodes) × Among b (touches_at n)
      here j = (nodes, omega arith, j)

      before : (n : ℕ) × (n < nodes) × Among b (touches_at n) → (n : ℕ) × (n < suc nodes) × Among b (touches_at n)
      before found = (found.0, omega (arith, found.1), found.2)

  gathered-all : (nodes n b : ℕ) → n < nodes → Among b (touches_at n) → Among b (gathered touches_at nodes)
  gathered-all nodes n b h i =
      let placed = placed-gathered touches_at n b i nodes h in
      subst (λ (x : ℕ). Among x (gathered touches_at nodes)) placed.1 (among-at (gathered touches_at nodes) (place_in (gathered touches_at nodes) b) placed.0)

  pub gathered-exactly : (nodes : ℕ) → Exactly touches_at nodes (gathered touches_at nodes)
  gathered-exactly nodes =
      record {
        ascending = asc-gathered touches_at nodes;
        only_touched = gathered-only nodes;
        all_touched = gathered-all nodes;
      }

-- ---- lists that are the same node by node gather the same

pub gathered-same : (one other : ℕ → List ℕ) → ((n : ℕ) → one n ≡ other n) → (nodes : ℕ) → gathered one nodes ≡ gathered other nodes
unfolding gathered
gathered-same one other same zero = refl
gathered-same one other same (suc nodes) = let rest = gathered-same one other same nodes in λ i. insert_all (same nodes i) (rest i)

-- ---- a list of blocks never gets shorter

insert-longer : (c : ℕ) (l : List ℕ) → length l ≤ length (insert c l)
insert-longer c [] = omega arith
insert-longer c (x ∷ l) =
    let rest = insert-longer c l in
    insert-cases (λ (m : List ℕ). length (x ∷ l) ≤ length m) c x l (λ h. omega arith) (λ h. omega arith) (λ h. omega arith)

pub insert-all-longer : (cs l : List ℕ) → length l ≤ length (insert_all cs l)
insert-all-longer [] l = omega arith
insert-all-longer (c ∷ cs) l = omega (arith, insert-longer c l, insert-all-longer cs (insert c l))

pub gathered-longer : (touches_at : ℕ → List ℕ) (n more : ℕ) → n ≤ more → length (gathered touches_at n) ≤ length (gathered touches_at more)
unfolding gathered
gathered-longer touches_at n zero h = let e : n ≡ 0 = omega arith in rw e (omega arith)
gathered-longer touches_at n (suc more) h = go (ℕ_discrete n (suc more)) (gathered-longer touches_at n more)
  where
    go : Dec (n ≡ suc more) → (n ≤ more → length (gathered touches_at n) ≤ length (gathered touches_at more)) → length (gathered touches_at n) ≤ length (insert_all (touches_at more) (gathered touches_at more))
    go (yes e) rest = rw e (omega arith)
    go (no e) rest = omega (arith, rest (omega arith), insert-all-longer (touches_at more) (gathered touches_at more))
