-- Laws of sets: who is a member when a number has been put in or taken out, and where the first member of a word stands.
use mathlib.Core.Bool.{Bool, true, false, cond, not, ◌||◌, true≢false}
use mathlib.Core.List.{List, [], ◌∷◌}
use mathlib.Core.Logic.{⊎_elim}
use mathlib.Core.Path.{◌≡◌, refl, sym, ap, subst, ◌∙◌}
use Prim.Native.Nat.{ℕ, zero, suc, ◌+◌, ◌-◌, ◌*◌, ◌/◌, ◌%◌, ◌^◌, ◌≤◌, ◌<◌, min}
use native.Mathlib.Decide.{ℕ_discrete}
use native.Mathlib.Nat.{div-add-mod', div-le_self, div-one}
use native.Mathlib.Omega.{arith}
use borrow.Author.Tests.{eq-eqb, ne_eqb}
use lib.Bits.{bit_or, bit_xor}
use lib.Count.{count_trailing_zeros}
use lib.Dec.{eqb}
use lib.ListN.{get_or, set, length, length-set, replicate}
use lib.Seq.{get_or-set_same, get_or-set_other}
use Rattle.lists.proofs.Choice.{or-last}
use Rattle.lists.proofs.Orders.{below_or}
use Rattle.bits.specs.Bits.{is_set, is_member, with_member, without_member, FirstFrom}
use Rattle.bits.proofs.Bits.{set-or, set-xor, set-none, set-above, set-one, set-shifted, trailing-set, trailing-none}

-- A number is known by its word and its bit.
place_same : (m n : ℕ) → m / 64 ≡ n / 64 → m % 64 ≡ n % 64 → m ≡ n
place_same m n e f = let a = div-add-mod' m 64 in let b = div-add-mod' n 64 in omega arith

pub word_in : (n : ℕ) (words : List ℕ) → n < 64 * length words → n / 64 < length words
word_in n words h = omega arith

module _ (words : List ℕ) (n : ℕ) (inside : n < 64 * length words) where
  -- What stands where n does, after a store there.
  stored : (word m : ℕ) → (m / 64 ≡ n / 64) → get_or (set words (n / 64) word) (m / 64) 0 ≡ word
  stored word m e = rw e (get_or-set_same words (n / 64) word 0 (word_in n words inside))

  elsewhere : (word m : ℕ) → (m / 64 ≡ n / 64 → ⊥) → get_or (set words (n / 64) word) (m / 64) 0 ≡ get_or words (m / 64) 0
  elsewhere word m q = get_or-set_other words (n / 64) (m / 64) word 0 q

  -- Within a word, the bit of n is that of no other.
  bit-of : (m : ℕ) → m / 64 ≡ n / 64 → is_set (2 ^ (n % 64)) (m % 64) ≡ eqb m n
  bit-of m e = set-one (n % 64) (m % 64) ∙ go (ℕ_discrete m n)
    where
      go : Dec (m ≡ n) → eqb (m % 64) (n % 64) ≡ eqb m n
      go (yes q) = eq-eqb (m % 64) (n % 64) (ap (λ (k : ℕ). k % 64) q) ∙ sym (eq-eqb m n q)
      go (no q) = ne_eqb (m % 64) (n % 64) (λ f. q (place_same m n e f)) ∙ sym (ne_eqb m n q)

  apart : (m : ℕ) → (m / 64 ≡ n / 64 → ⊥) → eqb m n ≡ false
  apart m q = ne_eqb m n (λ e. q (ap (λ (k : ℕ). k / 64) e))

  pub member-put : (m : ℕ) → is_member (with_member n words) m ≡ (is_member words m || eqb m n)
  unfolding is_member with_member
  member-put m = go (ℕ_discrete (m / 64) (n / 64))
    where
      joined : ℕ
      joined = bit_or (get_or words (n / 64) 0) (2 ^ (n % 64))

      go : Dec (m / 64 ≡ n / 64) → is_member (with_member n words) m ≡ (is_member words m || eqb m n)
      go (no q) =
          ap (λ (w : ℕ). is_set w (m % 64)) (elsewhere joined m q)
          ∙ sym (or-last (is_member words m))
          ∙ ap (λ (b : Bool). is_member words m || b) (sym (apart m q))
      go (yes q) =
          ap (λ (w : ℕ). is_set w (m % 64)) (stored joined m q)
          ∙ set-or (get_or words (n / 64) 0) (2 ^ (n % 64)) (m % 64)
          ∙ ap (λ (k : ℕ). is_set (get_or words k 0) (m % 64) || is_set (2 ^ (n % 64)) (m % 64)) (sym q)
          ∙ ap (λ (b : Bool). is_member words m || b) (bit-of m q)

  pub member-out : is_member words n ≡ true → (m : ℕ) → is_member (without_member n words) m ≡ cond (eqb m n) false (is_member words m)
  unfolding is_member without_member
  member-out there m = go (ℕ_discrete (m / 64) (n / 64))
    where
      parted : ℕ
      parted = bit_xor (get_or words (n / 64) 0) (2 ^ (n % 64))

      same : Dec (m ≡ n) → cond (eqb m n) (not (is_member words m)) (is_member words m) ≡ cond (eqb m n) false (is_member words m)
      same (yes e) = rw (e, eq-eqb n n refl, there)
      same (no e) = rw (ne_eqb m n e)

      go : Dec (m / 64 ≡ n / 64) → is_member (without_member n words) m ≡ cond (eqb m n) false (is_member words m)
      go (no q) =
          ap (λ (w : ℕ). is_set w (m % 64)) (elsewhere parted m q)
          ∙ ap (λ (b : Bool). cond b false (is_member words m)) (sym (apart m q))
      go (yes q) =
          ap (λ (w : ℕ). is_set w (m % 64)) (stored parted m q)
          ∙ set-xor (get_or words (n / 64) 0) (2 ^ (n % 64)) (m % 64)
          ∙ ap (λ (k : ℕ). cond (is_set (2 ^ (n % 64)) (m % 64)) (not (is_set (get_or words k 0) (m % 64))) (is_set (get_or words k 0) (m % 64))) (sym q)
          ∙ ap (λ (b : Bool). cond b (not (is_member words m)) (is_member words m)) (bit-of m q)
          ∙ same (ℕ_discrete m n)

-- ---- the first member

module _ (words : List ℕ) where
  -- The k-th bit of a word, counted from the bit of a number in it.
  abbrev rest : ℕ → ℕ
  rest n = get_or words (n / 64) 0 / 2 ^ (n % 64)

  rest-member : (n m : ℕ) → n ≤ m → m < 64 * (n / 64 + 1) → is_member words m ≡ is_set (rest n) (m - n)
  unfolding is_member
  rest-member n m l h =
      let word : m / 64 ≡ n / 64 = omega arith in
      let bit : m % 64 ≡ n % 64 + (m - n) = omega arith in
      rw (word, bit) (sym (set-shifted (get_or words (n / 64) 0) (n % 64) (m - n)))

  pub rest-here : (n : ℕ) → rest n % 2 ≡ 1 → is_member words n ≡ true
  rest-here n e =
      let none : n - n ≡ 0 = omega arith in
      rest-member n n (omega arith) (omega arith) ∙ (rw (none, div-one (rest n), eq-eqb (rest n % 2) 1 e))

  module _ (from count : ℕ) (narrow : get_or words (from / 64) 0 < 2 ^ 64) where
    -- None of the bits from this one on is set: none of the word's is a member.
    pub rest-none : rest from ≡ 0 → (m : ℕ) → from ≤ m → m < 64 * (from / 64 + 1) → is_member words m ≡ false
    rest-none e m l h = rest-member from m l h ∙ ap (λ (w : ℕ). is_set w (m - from)) e ∙ set-none (m - from)

    -- Else the lowest that is set is the first member.
    pub rest-first : (rest from ≡ 0 → ⊥) → from < count → FirstFrom words from count (min (from + count_trailing_zeros 64 (rest from)) count)
    rest-first some below =
        record {
          within = omega arith;
          none_before = λ m l h. rest-member from m l (omega (arith, inside)) ∙ trailing-none 64 (rest from) (m - from) (omega arith);
          is_in_set = λ h.
              let here : min (from + count_trailing_zeros 64 (rest from)) count ≡ from + count_trailing_zeros 64 (rest from) = omega arith in
              let back : from + count_trailing_zeros 64 (rest from) - from ≡ count_trailing_zeros 64 (rest from) = omega arith in
              rw here
              (omega arith, rest-member from (from + count_trailing_zeros 64 (rest from)) (omega arith) (omega (arith, inside)) ∙ (rw back there));
        }
      where
        small : rest from < 2 ^ 64
        small = let l = div-le_self (get_or words (from / 64) 0) (2 ^ (from % 64)) in omega arith

        there : is_set (rest from) (count_trailing_zeros 64 (rest from)) ≡ true
        there = trailing-set 64 (rest from) small some

        inside : from % 64 + count_trailing_zeros 64 (rest from) < 64
        inside =
            ⊎_elim (λ (h : from % 64 + count_trailing_zeros 64 (rest from) < 64). h)
            (λ (h : 64 ≤ from % 64 + count_trailing_zeros 64 (rest from)).
            absurd (true≢false (sym there ∙ set-shifted (get_or words (from / 64) 0) (from % 64) (count_trailing_zeros 64 (rest from)) ∙ set-above (get_or words (from / 64) 0) 64 (from % 64 + count_trailing_zeros 64 (rest from)) narrow h)))
            (below_or (from % 64 + count_trailing_zeros 64 (rest from)) 64)

  -- What is first after a stretch without members is first from its beginning on.
  pub first-after : (from later count answer : ℕ) → from ≤ later → ((m : ℕ) → from ≤ m → m < later → is_member words m ≡ false) → FirstFrom words later count answer → FirstFrom words from count answer
  first-after from later count answer l none f =
      record {
        within = f.within;
        none_before = λ m g h. ⊎_elim (λ (k : m < later). none m g k) (λ (k : later ≤ m). f.none_before m k h) (below_or m later);
        is_in_set = λ h. (omega (arith, (f.is_in_set h).0), (f.is_in_set h).1);
      }

  -- The same of a whole word.
  module _ (word count : ℕ) (narrow : get_or words word 0 < 2 ^ 64) where
    whole : rest (64 * word) ≡ get_or words word 0
    whole =
        let place : 64 * word / 64 ≡ word = omega arith in
        let first : 64 * word % 64 ≡ 0 = omega arith in
        rw (place, first) (div-one (get_or words word 0))

    narrow-there : get_or words (64 * word / 64) 0 < 2 ^ 64
    narrow-there = let place : 64 * word / 64 ≡ word = omega arith in rw place narrow

    pub word_none : get_or words word 0 ≡ 0 → (m : ℕ) → 64 * word ≤ m → m < 64 * (word + 1) → is_member words m ≡ false
    word_none e m l h = rest-none (64 * word) count narrow-there (whole ∙ e) m l (omega arith)

    pub word_first : (get_or words word 0 ≡ 0 → ⊥) → 64 * word < count → FirstFrom words (64 * word) count (min (64 * word + count_trailing_zeros 64 (get_or words word 0)) count)
    word_first some below =
        subst (λ (bits : ℕ). FirstFrom words (64 * word) count (min (64 * word + count_trailing_zeros 64 bits) count)) whole
        (rest-first (64 * word) count narrow-there (λ e. some (sym whole ∙ e)) below)

-- ---- a set has as many words as it had

pub put-length : (words : List ℕ) (n : ℕ) → length (with_member n words) ≡ length words
unfolding with_member
put-length words n = length-set words (n / 64) (bit_or (get_or words (n / 64) 0) (2 ^ (n % 64)))

pub out-length : (words : List ℕ) (n : ℕ) → length (without_member n words) ≡ length words
unfolding without_member
out-length words n = length-set words (n / 64) (bit_xor (get_or words (n / 64) 0) (2 ^ (n % 64)))

-- ---- a set without a member

zeros-at : (count k : ℕ) → ◌≡◌ {A = ℕ} (get_or (replicate count 0) k 0) 0
zeros-at zero k = refl
zeros-at (suc count) zero = refl
zeros-at (suc count) (suc k) = zeros-at count k

pub none-member : (count m : ℕ) → is_member (replicate count 0) m ≡ false
unfolding is_member
none-member count m = ap (λ (w : ℕ). is_set w (m % 64)) (zeros-at count (m / 64)) ∙ set-none (m % 64)

-- ---- a set in one word

pub one_word : (word m : ℕ) → m < 64 → is_member (word ∷ []) m ≡ is_set word m
unfolding is_member
one_word word m h =
    let place : m / 64 ≡ 0 = omega arith in
    let bit : m % 64 ≡ m = omega arith in
    rw (place, bit)
