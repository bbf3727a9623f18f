-- A block stored in a list, and what stands from there on moved up by one.
use mathlib.Core.List.{List, [], ◌∷◌, ◌++◌, append_assoc, append-nil}
use mathlib.Core.Path.{◌≡◌, sym, ap, ◌∙◌}
use Prim.Native.Nat.{ℕ, suc, ◌+◌, ◌≤◌, ◌<◌}
use native.Mathlib.Numerals.{add-one}
use native.Mathlib.Omega.{arith}
use lib.ListN.{length, get_or, take, drop, set, length-drop, drop_of_length-le}
use lib.Seq.{paste, take-suc, drop-cons, take-take, length-take-le, set_at, get_or_at}
use borrow.Rule.Slice.PartMut.{put_mid}
use Rattle.std.proofs.lemmas.Slice.{put_mid-paste}

-- A list when so many places of it have the block in front of it, and what stood before each of them; and what is carried to the next.
abbrev pub shifted : List ℕ → ℕ → ℕ → List ℕ
shifted l block i = take i (block ∷ l) ++ drop i l

abbrev pub carried_at : List ℕ → ℕ → ℕ → ℕ
carried_at l block i = get_or (block ∷ l) i 0

module _ (l : List ℕ) (block : ℕ) where
  module _ (now : List ℕ) (carried i : ℕ) (inside : i < length l) (stored : now ≡ shifted l block i) (carries : carried ≡ carried_at l block i) where
    opened : now ≡ take i (block ∷ l) ++ (get_or l i 0 ∷ drop (suc i) l)
    opened = stored ∙ ap (λ (rest : List ℕ). take i (block ∷ l) ++ rest) (drop-cons l i 0 inside)

    long : length (take i (block ∷ l)) ≡ i
    long = length-take-le i (block ∷ l) (omega arith)

    pub shift-stores : set now i carried ≡ shifted l block (i + 1)
    shift-stores =
        ap (λ (a : List ℕ). set a i carried) opened
        ∙ set_at (take i (block ∷ l)) (get_or l i 0) (drop (suc i) l) carried i long
        ∙ ap (λ (v : ℕ). take i (block ∷ l) ++ (v ∷ drop (suc i) l)) carries
        ∙ sym
        (ap (λ (front : List ℕ). front ++ drop (suc i) l) (take-suc (block ∷ l) i 0 (omega arith))
        ∙ append_assoc (take i (block ∷ l)) (carried_at l block i ∷ []) (drop (suc i) l))
        ∙ ap (shifted l block) (sym (add-one i))

    pub shift-carries : get_or now i 0 ≡ carried_at l block (i + 1)
    shift-carries = rw (opened, add-one i) (get_or_at (take i (block ∷ l)) (get_or l i 0) (drop (suc i) l) 0 i long)

  -- All places of the first n + 1.
  shifted-all : (n i : ℕ) → n < length l → i ≤ length (take (suc n) l) → length (take (suc n) l) ≤ i → shifted (take (suc n) l) block i ≡ take (suc n) (block ∷ l)
  shifted-all n i inside some all =
      let whole : length (take (suc n) l) ≡ suc n = length-take-le (suc n) l (omega arith) in
      let last : i ≡ suc n = omega arith in
      let none : drop (suc n) (take (suc n) l) ≡ [] = (let short : length (take (suc n) l) ≤ suc n = omega arith in drop_of_length-le (take (suc n) l) short) in
      ap (shifted (take (suc n) l) block) last
      ∙ ap (λ (r : List ℕ). take (suc n) (block ∷ take (suc n) l) ++ r) none
      ∙ append-nil (take (suc n) (block ∷ take (suc n) l))
      ∙ ap (λ (r : List ℕ). block ∷ r) (take-take n (suc n) l (omega arith))

-- A part of a list, when all of its places are stored, in its place.
pub shift-ends : (l part : List ℕ) (place block k n i : ℕ) → k ≡ n + 1 → place + n < length l → i ≤ length (take k (drop place l)) → length (take k (drop place l)) ≤ i
    → part ≡ shifted (take k (drop place l)) block i → put_mid place k l part ≡ paste l place (block ∷ drop place l) (n + 1)
shift-ends l part place block k n i same inside some all stored =
    let long : n < length (drop place l) = omega (arith, length-drop place l) in
    let more : k ≡ suc n = omega arith in
    let part-is : part ≡ take (suc n) (block ∷ drop place l) =
    stored ∙ rw more (shifted-all (drop place l) block n i long (rw more at some) (rw more at all)) in
    rw (add-one n)
    (put_mid-paste place k l part (take (suc n) (block ∷ drop place l)) (suc n) part-is (omega arith) (sym (length-take-le (suc n) (block ∷ drop place l) (omega arith)))
    ∙ ap (λ (r : List ℕ). take place l ++ r ++ drop (place + suc n) l) (take-take (suc n) (suc n) (block ∷ drop place l) (omega arith)))
