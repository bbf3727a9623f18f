-- A block that stands at its place in a list: it does once it is put in, and it still does when others are.
use mathlib.Core.List.{List, [], ◌∷◌}
use mathlib.Core.Logic.{◌⊎◌, inl, inr, ⊎_elim}
use mathlib.Core.Path.{◌≡◌, refl}
use Prim.Native.Nat.{ℕ, zero, suc, ◌≤◌, ◌<◌}
use native.Mathlib.Decide.{ℕ_discrete}
use native.Mathlib.Omega.{arith}
use lib.ListN.{length, get_or}
use Rattle.lists.specs.Lists.{Among}
use Rattle.lists.proofs.Orders.{below_or}
use Rattle.blocks.specs.Blocks.{insert, gathered, insert_all, place_in}
use Rattle.blocks.proofs.Search.{place_here, place-past}
use Rattle.blocks.proofs.Insertion.{insert-cases}

abbrev Placed : ℕ → List ℕ → Type 0
Placed b l = (place_in l b < length l) × (get_or l (place_in l b) 0 ≡ b)

placed-here : (b x : ℕ) (l : List ℕ) → x ≡ b → Placed b (x ∷ l)
placed-here b x l e = let q : place_in (x ∷ l) b ≡ 0 = place_here b x l (omega arith) in (omega arith, rw q e)

placed_past : (b x : ℕ) (l : List ℕ) → x < b → Placed b l → Placed b (x ∷ l)
placed_past b x l h p = let q : place_in (x ∷ l) b ≡ suc (place_in l b) = place-past b x l h in (omega arith, rw q p.1)

placed-cases : (b x : ℕ) (l : List ℕ) → Placed b (x ∷ l) → (x ≡ b) ⊎ ((x < b) × Placed b l)
placed-cases b x l p = ⊎_elim past here (below_or x b)
  where
    past : x < b → (x ≡ b) ⊎ ((x < b) × Placed b l)
    past h = let q : place_in (x ∷ l) b ≡ suc (place_in l b) = place-past b x l h in inr (h, (omega arith, rw q at p.1))

    here : b ≤ x → (x ≡ b) ⊎ ((x < b) × Placed b l)
    here h = let q : place_in (x ∷ l) b ≡ 0 = place_here b x l h in inl (rw q at p.1)

placed-insert : (b : ℕ) (l : List ℕ) → Placed b (insert b l)
placed-insert b [] = placed-here b b [] refl
placed-insert b (x ∷ l) =
    let rest = placed-insert b l in
    insert-cases (Placed b) b x l (λ h. placed_past b x (insert b l) h rest) (λ e. placed-here b x l e) (λ h. placed-here b b (x ∷ l) refl)

placed-stays : (b c : ℕ) (l : List ℕ) → Placed b l → Placed b (insert c l)
placed-stays b c [] p = absurd (omega (arith, p.0))
placed-stays b c (x ∷ l) p = ⊎_elim here (past (placed-stays b c l)) (placed-cases b x l p)
  where
    here : x ≡ b → Placed b (insert c (x ∷ l))
    here e = insert-cases (Placed b) c x l (λ h. placed-here b x (insert c l) e) (λ h. p) (λ h. placed_past b c (x ∷ l) (omega arith) p)

    past : (Placed b l → Placed b (insert c l)) → (x < b) × Placed b l → Placed b (insert c (x ∷ l))
    past rest q =
        let h : x < b = q.0 in
        insert-cases (Placed b) c x l (λ k. placed_past b x (insert c l) h (rest q.1)) (λ k. p) (λ k. placed_past b c (x ∷ l) (omega arith) p)

placed-all-stay : (b : ℕ) (cs l : List ℕ) → Placed b l → Placed b (insert_all cs l)
placed-all-stay b [] l p = p
placed-all-stay b (c ∷ cs) l p = placed-all-stay b cs (insert c l) (placed-stays b c l p)

-- Each of the blocks put in stands at its place afterwards.
placed-all : (b : ℕ) (cs l : List ℕ) → Among b cs → Placed b (insert_all cs l)
placed-all b [] l i = absurd i
placed-all b (c ∷ cs) l (inl e) = placed-all-stay b cs (insert c l) (rw e (placed-insert c l))
placed-all b (c ∷ cs) l (inr i) = placed-all b cs (insert c l) i

-- A block that a node touches, among those of more nodes than it.
pub placed-gathered : (touches : ℕ → List ℕ) (n b : ℕ) → Among b (touches n) → (nodes : ℕ) → n < nodes → Placed b (gathered touches nodes)
unfolding gathered
placed-gathered touches n b i zero h = absurd (omega arith)
placed-gathered touches n b i (suc nodes) h = go (ℕ_discrete n nodes) (placed-gathered touches n b i nodes)
  where
    go : Dec (n ≡ nodes) → (n < nodes → Placed b (gathered touches nodes)) → Placed b (insert_all (touches nodes) (gathered touches nodes))
    go (yes q) before = rw (← q) (placed-all b (touches n) (gathered touches n) i)
    go (no q) before = placed-all-stay b (touches nodes) (gathered touches nodes) (before (omega arith))
