-- One set of the plain cache: what is younger than a block, before and after a touch; and a block's age is at most the number of columns with a flag,
-- if what is younger are blocks of such columns.
use Prim.Native.Nat.{ℕ, zero, suc, ◌+◌, ◌*◌, ◌≤◌, ◌<◌, zero-le}
use mathlib.Core.Bool.{Bool, true, false, cond}
use mathlib.Core.List.{List, [], ◌∷◌}
use mathlib.Core.Path.{◌≡◌, refl, sym, ap, ◌∙◌}
use native.Mathlib.Decide.{ℕ_discrete}
use native.Mathlib.Omega.{arith}
use borrow.Author.Tests.{eq-eqb, ne_eqb}
use lib.Dec.{eqb}
use lib.ListN.{take}
use Rattle.lists.specs.Lists.{sum_of}
use Rattle.lists.proofs.Sums.{sum_both, sum-equal, sum-pick}
use Rattle.cache.specs.Plain.{without, touch_set, age_in, Absent, Different}
use Rattle.cache.proofs.Places.{age-here, age-there, without-here, without-there}
use Rattle.kept.specs.Younger.{Passed, Younger, Flagged}

-- ---- by the first of a list

younger-here : (places x block : ℕ) (l : List ℕ) (K : ℕ → Type 0) → x ≡ block → Younger places (x ∷ l) block K
younger-here zero x block l K e = tt
younger-here (suc places) x block l K e = rw (eq-eqb x block e) tt

younger-there : (places x block : ℕ) (l : List ℕ) (K : ℕ → Type 0) → K x → Younger places l block K → Younger (suc places) (x ∷ l) block K
younger-there places x block l K this rest = go (eqb x block)
  where
    go : (t : Bool) → Passed t (K x) (Younger places l block K)
    go true = tt
    go false = (this, rest)

younger-past : (places x block : ℕ) (l : List ℕ) (K : ℕ → Type 0) → (x ≡ block → ⊥) → Younger (suc places) (x ∷ l) block K → K x × Younger places l block K
younger-past places x block l K e h = rw (ne_eqb x block e) at h

-- ---- another K

-- What is passed is in H too, since no m stands in the list.
younger-lacking : (m places block : ℕ) (l : List ℕ) (K H : ℕ → Type 0) → ((x : ℕ) → (x ≡ m → ⊥) → K x → H x) → Absent m l
    → Younger places l block K → Younger places l block H
younger-lacking m zero block l K H more absent h = tt
younger-lacking m (suc places) block [] K H more absent h = h
younger-lacking m (suc places) block (x ∷ l) K H more absent h = go (eqb x block) h (younger-lacking m places block l K H more absent.1)
  where
    go : (t : Bool) → Passed t (K x) (Younger places l block K) → (Younger places l block K → Younger places l block H)
        → Passed t (H x) (Younger places l block H)
    go true h rest = tt
    go false h rest = (more x absent.0 h.0, rest h.1)

pub younger-more : (places block : ℕ) (l : List ℕ) (K H : ℕ → Type 0) → ((x : ℕ) → K x → H x) → Younger places l block K → Younger places l block H
younger-more zero block l K H more h = tt
younger-more (suc places) block [] K H more h = h
younger-more (suc places) block (x ∷ l) K H more h = go (eqb x block) h (younger-more places block l K H more)
  where
    go : (t : Bool) → Passed t (K x) (Younger places l block K) → (Younger places l block K → Younger places l block H)
        → Passed t (H x) (Younger places l block H)
    go true h rest = tt
    go false h rest = (more x h.0, rest h.1)

-- ---- a touch

younger-take : (places block : ℕ) (l : List ℕ) (K : ℕ → Type 0) → Younger places l block K → Younger places (take places l) block K
younger-take zero block l K h = tt
younger-take (suc places) block [] K h = h
younger-take (suc places) block (x ∷ l) K h = go (eqb x block) h (younger-take places block l K)
  where
    go : (t : Bool) → Passed t (K x) (Younger places l block K) → (Younger places l block K → Younger places (take places l) block K)
        → Passed t (K x) (Younger places (take places l) block K)
    go true h rest = tt
    go false h rest = (h.0, rest h.1)

-- Another block taken out of the list, which then has one place less.
younger-without : (places m block : ℕ) (l : List ℕ) (K : ℕ → Type 0) → (block ≡ m → ⊥)
    → Younger (suc places) l block K → Younger places (without m l) block K
younger-without zero m block l K apart h = tt
younger-without (suc places) m block [] K apart h = absurd h
younger-without (suc places) m block (x ∷ l) K apart h = go (ℕ_discrete x block) (ℕ_discrete x m) (younger-without places m block l K apart)
  where
    go : Dec (x ≡ block) → Dec (x ≡ m) → (Younger (suc places) l block K → Younger places (without m l) block K)
        → Younger (suc places) (without m (x ∷ l)) block K
    go (yes e) d rest = rw (without-there m x l (λ q. apart (sym e ∙ q))) (younger-here (suc places) x block (without m l) K e)
    go (no p) (yes e) rest = rw (without-here m x l e) (younger-past (suc places) x block l K p h).1
    go (no p) (no q) rest =
        let both = younger-past (suc places) x block l K p h in
        rw (without-there m x l q) (younger-there places x block (without m l) K both.0 (rest both.1))

-- Nothing is younger than the block that is touched.
pub touch-own : (ways m block : ℕ) (l : List ℕ) (K : ℕ → Type 0) → m ≡ block → Younger ways (touch_set ways m l) block K
unfolding touch_set
touch-own ways m block l K e = younger-take ways block (m ∷ without m l) K (younger-here ways m block (without m l) K e)

-- A touch of another block makes that one younger, and no other.
pub touch-other : (ways m block : ℕ) (l : List ℕ) (K : ℕ → Type 0) → (block ≡ m → ⊥) → K m
    → Younger ways l block K → Younger ways (touch_set ways m l) block K
unfolding touch_set
touch-other zero m block l K apart this h = tt
touch-other (suc ways) m block l K apart this h =
    younger-take (suc ways) block (m ∷ without m l) K (younger-there ways m block (without m l) K this (younger-without ways m block l K apart h))

-- ---- the age of a block

-- The flags but that of column k.
abbrev minus : (ℕ → Bool) → ℕ → ℕ → Bool
minus flag k column = cond (eqb k column) false (flag column)

abbrev bit : Bool → ℕ
bit t = cond t 1 0

abbrev size : ℕ → (ℕ → Bool) → ℕ
size count flag = sum_of count (λ column. bit (flag column))

minus-other : (flag : ℕ → Bool) (k column : ℕ) → (k ≡ column → ⊥) → minus flag k column ≡ flag column
minus-other flag k column apart = rw (ne_eqb k column apart)

-- One flag less is one column less.
size-minus : (count : ℕ) (flag : ℕ → Bool) (k : ℕ) → k < count → flag k ≡ true → size count flag ≡ suc (size count (minus flag k))
size-minus count flag k h e =
    let apart = sum-equal count (λ i. bit (flag i)) (λ i. cond (eqb k i) 1 0 * 1 + bit (minus flag k i)) (λ i l. each i (ℕ_discrete k i)) in
    let both = sum_both count (λ i. cond (eqb k i) 1 0 * 1) (λ i. bit (minus flag k i)) in
    let one = sum-pick count k (λ i. 1) h in
    omega arith
  where
    each : (i : ℕ) → Dec (k ≡ i) → bit (flag i) ≡ cond (eqb k i) 1 0 * 1 + bit (minus flag k i)
    each i (yes q) = rw (eq-eqb k i q, ← q, e) refl
    each i (no q) = rw (ne_eqb k i q) (omega arith)

-- Each block that is passed has a column of its own.
pub age-flagged : (count : ℕ) (block_at : ℕ → ℕ) (ways block : ℕ) (l : List ℕ) (flag : ℕ → Bool) → Different l
    → Younger ways l block (Flagged count block_at flag) → age_in ways l block ≤ sum_of count (λ column. cond (flag column) 1 0)
unfolding age_in
age-flagged count block_at zero block l flag different h = zero-le
age-flagged count block_at (suc ways) block [] flag different h = absurd h
age-flagged count block_at (suc ways) block (x ∷ l) flag different h = go (ℕ_discrete x block) (λ f. age-flagged count block_at ways block l f different.1)
  where
    left : (k : ℕ) → block_at k ≡ x → (y : ℕ) → (y ≡ x → ⊥) → Flagged count block_at flag y → Flagged count block_at (minus flag k) y
    left k e y apart f =
        record {
          column = f.column;
          inside = f.inside;
          names = f.names;
          flagged = minus-other flag k f.column (λ q. apart (sym f.names ∙ ap block_at (sym q) ∙ e)) ∙ f.flagged;
        }

    go : Dec (x ≡ block) → ((f : ℕ → Bool) → Younger ways l block (Flagged count block_at f) → age_in ways l block ≤ size count f)
        → age_in (suc ways) (x ∷ l) block ≤ size count flag
    go (yes e) rest = omega (arith, age-here (suc ways) x block l e)
    go (no p) rest =
        let both = younger-past ways x block l (Flagged count block_at flag) p h in
        let k : ℕ = both.0.column in
        let fewer = rest (minus flag k)
        (younger-lacking x ways block l (Flagged count block_at flag) (Flagged count block_at (minus flag k)) (left k both.0.names) different.0 both.1) in
        let one = size-minus count flag k both.0.inside both.0.flagged in
        omega (arith, age-there ways x block l p)
