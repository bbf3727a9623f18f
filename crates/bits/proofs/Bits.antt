-- Laws of the bits of a word: of two words together, of one bit alone, of a word shifted, and of the lowest bit that is set.
use mathlib.Core.Bool.{Bool, true, false, cond, not, ◌&&◌, ◌||◌}
use mathlib.Core.Path.{◌≡◌, refl, sym, ap, ◌∙◌}
use Prim.Native.Nat.{ℕ, zero, suc, ◌+◌, ◌/◌, ◌%◌, ◌^◌, ◌≤◌, ◌<◌}
use native.Mathlib.Decide.{ℕ_discrete}
use native.Mathlib.Nat.{div-one, mod-lt, div-add-mod'}
use native.Mathlib.Omega.{arith}
use borrow.Author.Tests.{eq-eqb, ne_eqb}
use lib.Bits.{bit_and, bit_or, bit_xor, or_add_and, and_le_r}
use lib.Count.{count_trailing_zeros}
use lib.Dec.{eqb}
use lib.Pow.{shr-shr, shr_lt}
use Rattle.std.proofs.lemmas.Bool.Decides.{nat_tests}
use Rattle.std.proofs.lemmas.Nat.Bits.{bit_at-lt, bit_at-zero, bit_at_and, bit_at_or, bit_at_xor, bit_at_above, bit_at-pow_same, bit_at-pow_other}
use Rattle.bits.specs.Bits.{bit_at, is_set, without}

-- A bit is 1 where it is set, and 0 where not.
pub bit_is : (word j : ℕ) → bit_at word j ≡ cond (is_set word j) 1 0
bit_is word j = go (bit_at word j) (bit_at-lt word j)
  where
    go : (bit : ℕ) → bit < 2 → bit ≡ cond (eqb bit 1) 1 0
    go zero h = refl
    go (suc zero) h = refl
    go (suc (suc bit)) h = absurd (omega arith)

-- ---- two words together

pub set-or : (a b j : ℕ) → is_set (bit_or a b) j ≡ (is_set a j || is_set b j)
set-or a b j = let one = bit_at-lt a j in let other = bit_at-lt b j in ap (λ (bit : ℕ). eqb bit 1) (bit_at_or a b j) ∙ grind (arith, nat_tests)

pub set-and : (a b j : ℕ) → is_set (bit_and a b) j ≡ (is_set a j && is_set b j)
set-and a b j = let one = bit_at-lt a j in let other = bit_at-lt b j in ap (λ (bit : ℕ). eqb bit 1) (bit_at_and a b j) ∙ grind (arith, nat_tests)

pub set-xor : (a b j : ℕ) → is_set (bit_xor a b) j ≡ cond (is_set b j) (not (is_set a j)) (is_set a j)
set-xor a b j = let one = bit_at-lt a j in let other = bit_at-lt b j in ap (λ (bit : ℕ). eqb bit 1) (bit_at_xor a b j) ∙ grind (arith, nat_tests)

pub set-without : (a b j : ℕ) → is_set (without a b) j ≡ (is_set a j && not (is_set b j))
set-without a b j = set-xor a (bit_and a b) j ∙ (rw (set-and a b j) (go (is_set a j) (is_set b j)))
  where
    go : (x y : Bool) → cond (x && y) (not x) x ≡ (x && not y)
    go true true = refl
    go true false = refl
    go false y = refl

pub or-grows : (a b : ℕ) → a ≤ bit_or a b
or-grows a b = omega (arith, or_add_and a b, and_le_r a b)

-- ---- no bit, and one

pub set-none : (j : ℕ) → is_set 0 j ≡ false
set-none j = ap (λ (bit : ℕ). eqb bit 1) (bit_at-zero j)

-- a number of k bits has none from the k-th on
pub set-above : (word k j : ℕ) → word < 2 ^ k → k ≤ j → is_set word j ≡ false
set-above word k j h l = ap (λ (bit : ℕ). eqb bit 1) (bit_at_above word k j h l)

pub set-one : (m j : ℕ) → is_set (2 ^ m) j ≡ eqb j m
set-one m j = go (ℕ_discrete j m)
  where
    go : Dec (j ≡ m) → is_set (2 ^ m) j ≡ eqb j m
    go (yes q) = rw (q, bit_at-pow_same m, eq-eqb m m refl)
    go (no q) = rw (bit_at-pow_other m j q, ne_eqb j m q)

-- ---- a word shifted, and its lowest bit

pub set-shifted : (word k j : ℕ) → is_set (word / 2 ^ k) j ≡ is_set word (k + j)
set-shifted word k j = ap (λ (x : ℕ). eqb (x % 2) 1) (shr-shr word k j)

halved : (word j : ℕ) → is_set (word / 2) j ≡ is_set word (suc j)
halved word j = set-shifted word 1 j ∙ (let e : 1 + j ≡ suc j = omega arith in rw e)

lowest : (word : ℕ) → is_set word 0 ≡ eqb (word % 2) 1
lowest word = ap (λ (x : ℕ). eqb (x % 2) 1) (div-one word)

-- The bit that as many zeros stand below as are counted is set.
pub trailing-set : (k word : ℕ) → word < 2 ^ k → (word ≡ 0 → ⊥) → is_set word (count_trailing_zeros k word) ≡ true
unfolding count_trailing_zeros
trailing-set zero word h some = absurd (some (omega arith))
trailing-set (suc k) word h some = go (λ half some_left. trailing-set k (word / 2) half some_left) (word % 2) refl (mod-lt word (omega arith))
  where
    go : (word / 2 < 2 ^ k → (word / 2 ≡ 0 → ⊥) → is_set (word / 2) (count_trailing_zeros k (word / 2)) ≡ true)
        → (bit : ℕ) → word % 2 ≡ bit → bit < 2 → is_set word (count_trailing_zeros (suc k) word) ≡ true
    go rest zero e l =
        let half : word / 2 < 2 ^ k = shr_lt k 1 (let s : k + 1 ≡ suc k = omega arith in rw s h) in
        let some_left : word / 2 ≡ 0 → ⊥ = λ z. some (let d = div-add-mod' word 2 in omega arith) in
        rw e (sym (halved word (count_trailing_zeros k (word / 2))) ∙ rest half some_left)
    go rest (suc zero) e l = rw e (lowest word ∙ ap (λ (b : ℕ). eqb b 1) e)
    go rest (suc (suc bit)) e l = absurd (omega arith)

-- None below it is.
pub trailing-none : (k word j : ℕ) → j < count_trailing_zeros k word → is_set word j ≡ false
unfolding count_trailing_zeros
trailing-none zero word j h = absurd (omega arith)
trailing-none (suc k) word j h = go (λ i l. trailing-none k (word / 2) i l) (word % 2) refl j h
  where
    go : ((i : ℕ) → i < count_trailing_zeros k (word / 2) → is_set (word / 2) i ≡ false)
        → (bit : ℕ) → word % 2 ≡ bit → (i : ℕ) → i < count_trailing_zeros (suc k) word → is_set word i ≡ false
    go rest zero e zero l = lowest word ∙ ap (λ (b : ℕ). eqb b 1) e
    go rest zero e (suc i) l = sym (halved word i) ∙ rest i (let q = rw e at l in omega arith)
    go rest (suc bit) e i l = absurd (let q = rw e at l in omega arith)
