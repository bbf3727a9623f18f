-- One set of the plain cache: where its blocks stand, and what a touch does to their ages.
use mathlib.Core.Bool.{Bool, true, false, cond}
use mathlib.Core.List.{List, [], ◌∷◌}
use mathlib.Core.Path.{◌≡◌, refl, sym, ap, ◌∙◌}
use Prim.Native.Nat.{ℕ, zero, suc, ◌≤◌, ◌<◌, zero-le}
use native.Mathlib.Decide.{ℕ_discrete}
use native.Mathlib.Omega.{arith}
use borrow.Author.Tests.{eq-eqb, ne_eqb, eqb-true, eqb-false}
use lib.Dec.{eqb}
use lib.ListN.{length, take, length-take}
use Rattle.cache.specs.Plain.{has, without, touch_set, age_in, Absent, Different, AllOf}
use Rattle.cache.specs.Laws.{Aged}

-- ---- ages, by the first of the list

pub age-here : (ways x block : ℕ) (l : List ℕ) → x ≡ block → age_in ways (x ∷ l) block ≡ 0
unfolding age_in
age-here zero x block l e = refl
age-here (suc ways) x block l e = rw (eq-eqb x block e)

pub age-there : (ways x block : ℕ) (l : List ℕ) → (x ≡ block → ⊥) → age_in (suc ways) (x ∷ l) block ≡ suc (age_in ways l block)
unfolding age_in
age-there ways x block l e = rw (ne_eqb x block e)

-- Rule 4.5, where the list has no block.
pub age-empty : (ways block : ℕ) → age_in ways [] block ≡ ways
unfolding age_in
age-empty zero block = refl
age-empty (suc ways) block = refl

pub age-most : (ways block : ℕ) (l : List ℕ) → age_in ways l block ≤ ways
unfolding age_in
age-most zero block l = zero-le
age-most (suc ways) block [] = omega arith
age-most (suc ways) block (x ∷ l) = go (ℕ_discrete x block) (age-most ways block l)
  where
    go : Dec (x ≡ block) → age_in ways l block ≤ ways → age_in (suc ways) (x ∷ l) block ≤ suc ways
    go (yes e) rest = omega (arith, age-here (suc ways) x block l e)
    go (no e) rest = omega (arith, age-there ways x block l e)

-- What stands past place A has no age.
age-take : (ways block : ℕ) (l : List ℕ) → age_in ways (take ways l) block ≡ age_in ways l block
unfolding age_in
age-take zero block l = refl
age-take (suc ways) block [] = refl
age-take (suc ways) block (x ∷ l) = ap (λ (n : ℕ). cond (eqb x block) zero (suc n)) (age-take ways block l)

-- Two blocks of one age are one block, or both are absent.
pub age-apart : (ways block m : ℕ) (l : List ℕ) → (block ≡ m → ⊥) → age_in ways l block ≡ age_in ways l m → age_in ways l block ≡ ways
unfolding age_in
age-apart zero block m l apart e = refl
age-apart (suc ways) block m [] apart e = refl
age-apart (suc ways) block m (x ∷ l) apart e = go (ℕ_discrete x block) (ℕ_discrete x m) (age-apart ways block m l apart)
  where
    go : Dec (x ≡ block) → Dec (x ≡ m) → (age_in ways l block ≡ age_in ways l m → age_in ways l block ≡ ways) → age_in (suc ways) (x ∷ l) block ≡ suc ways
    go (yes p) (yes q) rest = absurd (apart (sym p ∙ q))
    go (yes p) (no q) rest = absurd (omega (arith, age-here (suc ways) x block l p, age-there ways x m l q))
    go (no p) (yes q) rest = absurd (omega (arith, age-there ways x block l p, age-here (suc ways) x m l q))
    go (no p) (no q) rest =
        let one = age-there ways x block l p in
        let other = age-there ways x m l q in
        let absent = rest (omega arith) in
        omega arith

-- ---- a touch

pub without-here : (m x : ℕ) (l : List ℕ) → x ≡ m → without m (x ∷ l) ≡ l
unfolding without
without-here m x l e = rw (eq-eqb x m e)

pub without-there : (m x : ℕ) (l : List ℕ) → (x ≡ m → ⊥) → without m (x ∷ l) ≡ x ∷ without m l
unfolding without
without-there m x l e = rw (ne_eqb x m e)

-- What taking m out, and putting it first, does to another block: `ways` of the list are behind the first place.
module _ (m block : ℕ) (apart : block ≡ m → ⊥) where
  abbrev Moved : ℕ → List ℕ → Type 0
  Moved ways l = Aged (age_in (suc ways) l m) (age_in (suc ways) l block) (suc (age_in ways (without m l) block))

  moved-past : (ways x : ℕ) (l : List ℕ) → (x ≡ m → ⊥) → (x ≡ block → ⊥) → ((k : ℕ) → Moved k l) → Moved ways (x ∷ l)
  unfolding age_in
  moved-past zero x l p q rest =
      record {
        younger = λ h. absurd (omega (arith, age-there zero x m l p, age-there zero x block l q));
        older = λ h. omega (arith, age-there zero x block l q);
      }
  moved-past (suc ways) x l p q rest =
      let one = age-there (suc ways) x m l p in
      let other = age-there (suc ways) x block l q in
      let after : age_in (suc ways) (without m (x ∷ l)) block ≡ suc (age_in ways (without m l) block) = ap (λ (k : List ℕ). age_in (suc ways) k block) (without-there m x l p) ∙ age-there ways x block (without m l) q in
      record {
        younger = λ h. omega (arith, (rest ways).younger (omega arith));
        older = λ h. omega (arith, (rest ways).older (omega arith));
      }

  touch-moves : (ways : ℕ) (l : List ℕ) → Moved ways l
  unfolding without
  touch-moves ways [] =
      record {
        younger = λ h. absurd (omega (arith, age-empty (suc ways) m, age-empty (suc ways) block));
        older = λ h. omega (arith, age-empty ways block, age-empty (suc ways) block);
      }
  touch-moves ways (x ∷ l) = go (ℕ_discrete x m) (ℕ_discrete x block) (λ k. touch-moves k l)
    where
      go : Dec (x ≡ m) → Dec (x ≡ block) → ((k : ℕ) → Moved k l) → Moved ways (x ∷ l)
      go (yes p) d rest =
          let first = age-here (suc ways) x m l p in
          let other = age-there ways x block l (λ q. apart (sym q ∙ p)) in
          let after : age_in ways (without m (x ∷ l)) block ≡ age_in ways l block = ap (λ (k : List ℕ). age_in ways k block) (without-here m x l p) in
          record { younger = λ h. absurd (omega arith); older = λ h. omega arith }
      go (no p) (yes q) rest =
          let one = age-there ways x m l p in
          let first = age-here (suc ways) x block l q in
          let after : age_in ways (without m (x ∷ l)) block ≡ 0 = ap (λ (k : List ℕ). age_in ways k block) (without-there m x l p) ∙ age-here ways x block (without m l) q in
          record { younger = λ h. omega arith; older = λ h. absurd (omega arith) }
      go (no p) (no q) rest = moved-past ways x l p q rest

  -- Rule 4.3, as ages: a younger block grows by one, an older one stays.
  pub touch-ages : (ways : ℕ) (l : List ℕ) → Aged (age_in ways l m) (age_in ways l block) (age_in ways (touch_set ways m l) block)
  unfolding touch_set age_in
  touch-ages zero l = record { younger = λ h. absurd (omega arith); older = λ h. refl }
  touch-ages (suc ways) l =
      let after : age_in (suc ways) (touch_set (suc ways) m l) block ≡ suc (age_in ways (without m l) block) = age-take (suc ways) block (m ∷ without m l) ∙ age-there ways m block (without m l) (λ q. apart (sym q)) in
      record {
        younger = λ h. after ∙ (touch-moves ways l).younger h;
        older = λ h. after ∙ (touch-moves ways l).older h;
      }

pub touch-first : (ways m : ℕ) (l : List ℕ) → age_in ways (touch_set ways m l) m ≡ 0
unfolding touch_set
touch-first ways m l = age-take ways m (m ∷ without m l) ∙ age-here ways m m (without m l) refl

-- ---- a touch keeps rule 4.1

absent-without : (m block : ℕ) (l : List ℕ) → Absent block l → Absent block (without m l)
unfolding without
absent-without m block [] h = tt
absent-without m block (x ∷ l) h = go (eqb x m) (absent-without m block l h.1)
  where
    go : (t : Bool) → Absent block (without m l) → Absent block (cond t l (x ∷ without m l))
    go true rest = h.1
    go false rest = (h.0, rest)

-- A block taken out of a list of different blocks is gone.
taken_out : (m : ℕ) (l : List ℕ) → Different l → Absent m (without m l)
unfolding without
taken_out m [] h = tt
taken_out m (x ∷ l) h = go (eqb x m) refl (taken_out m l h.1)
  where
    go : (t : Bool) → eqb x m ≡ t → Absent m (without m l) → Absent m (cond t l (x ∷ without m l))
    go true e rest = rw (eqb-true x m e) at h.0
    go false e rest = (eqb-false x m e, rest)

different-without : (m : ℕ) (l : List ℕ) → Different l → Different (without m l)
unfolding without
different-without m [] h = tt
different-without m (x ∷ l) h = go (eqb x m) (different-without m l h.1)
  where
    go : (t : Bool) → Different (without m l) → Different (cond t l (x ∷ without m l))
    go true rest = h.1
    go false rest = (absent-without m x l h.0, rest)

absent-take : (n block : ℕ) (l : List ℕ) → Absent block l → Absent block (take n l)
absent-take zero block l h = tt
absent-take (suc n) block [] h = tt
absent-take (suc n) block (x ∷ l) h = (h.0, absent-take n block l h.1)

different-take : (n : ℕ) (l : List ℕ) → Different l → Different (take n l)
different-take zero l h = tt
different-take (suc n) [] h = tt
different-take (suc n) (x ∷ l) h = (absent-take n x l h.0, different-take n l h.1)

pub touch-different : (ways m : ℕ) (l : List ℕ) → Different l → Different (touch_set ways m l)
unfolding touch_set
touch-different ways m l h = different-take ways (m ∷ without m l) (taken_out m l h, different-without m l h)

module _ (key : ℕ → ℕ) (set : ℕ) where
  own-without : (m : ℕ) (l : List ℕ) → AllOf key set l → AllOf key set (without m l)
  unfolding without
  own-without m [] h = tt
  own-without m (x ∷ l) h = go (eqb x m) (own-without m l h.1)
    where
      go : (t : Bool) → AllOf key set (without m l) → AllOf key set (cond t l (x ∷ without m l))
      go true rest = h.1
      go false rest = (h.0, rest)

  own-take : (n : ℕ) (l : List ℕ) → AllOf key set l → AllOf key set (take n l)
  own-take zero l h = tt
  own-take (suc n) [] h = tt
  own-take (suc n) (x ∷ l) h = (h.0, own-take n l h.1)

  pub touch-own : (ways m : ℕ) (l : List ℕ) → key m ≡ set → AllOf key set l → AllOf key set (touch_set ways m l)
  unfolding touch_set
  touch-own ways m l e h = own-take ways (m ∷ without m l) (e, own-without m l h)

pub touch-short : (ways m : ℕ) (l : List ℕ) → length (touch_set ways m l) ≤ ways
unfolding touch_set
touch-short ways m l = simp length-take (omega arith)

-- ---- hits

pub young-has : (ways block : ℕ) (l : List ℕ) → age_in ways l block < ways → has block l ≡ true
unfolding has age_in
young-has zero block l h = absurd (omega arith)
young-has (suc ways) block [] h = absurd (omega arith)
young-has (suc ways) block (x ∷ l) h = go (eqb x block) refl (young-has ways block l)
  where
    go : (t : Bool) → eqb x block ≡ t → (age_in ways l block < ways → has block l ≡ true) → cond t true (has block l) ≡ true
    go true e rest = refl
    go false e rest = let behind = age-there ways x block l (eqb-false x block e) in rest (omega arith)

has-young : (ways block : ℕ) (l : List ℕ) → length l ≤ ways → has block l ≡ true → age_in ways l block < ways
unfolding has age_in
has-young ways block [] h e = absurd (let z : ◌≡◌ {A = ℕ} 0 1 = cc in omega arith)
has-young zero block (x ∷ l) h e = absurd (omega arith)
has-young (suc ways) block (x ∷ l) h e = go (eqb x block) e (has-young ways block l (omega arith))
  where
    go : (t : Bool) → cond t true (has block l) ≡ true → (has block l ≡ true → age_in ways l block < ways) → cond t 0 (suc (age_in ways l block)) < suc ways
    go true e rest = omega arith
    go false e rest = omega (arith, rest e)

pub old-lacks : (ways block : ℕ) (l : List ℕ) → length l ≤ ways → ways ≤ age_in ways l block → has block l ≡ false
old-lacks ways block l short old = go (has block l) refl
  where
    go : (t : Bool) → has block l ≡ t → has block l ≡ false
    go true e = absurd (omega (arith, has-young ways block l short e))
    go false e = e
