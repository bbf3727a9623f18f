-- Words as rows of bits, and sets of small numbers in words, 64 to each. Nothing here is a rule of the tool: definitions are put together of it, and contracts
-- of inner functions speak of it.
use Rattle.std.specs.Prelude.{ℕ, ◌/◌, ◌%◌, ◌^◌, ◌≤◌, ◌<◌, Bool, true, false, List, ◌≡◌, eqb, get_or, set}
use Rattle.std.specs.Int.Bits.{bit_and, bit_or, bit_xor}

-- Bit j of a word, and whether it is set.
abbrev pub bit_at : ℕ → ℕ → ℕ
bit_at word j = word / 2 ^ j % 2

abbrev pub is_set : ℕ → ℕ → Bool
is_set word j = eqb (bit_at word j) 1

-- A word without the bits of another.
abbrev pub without : ℕ → ℕ → ℕ
without word other = bit_xor word (bit_and word other)

-- Whether n is in a set.
unfoldable pub is_member : List ℕ → ℕ → Bool
is_member words n = is_set (get_or words (n / 64) 0) (n % 64)

-- The set with n in it, whether or not it was.
unfoldable pub with_member : ℕ → List ℕ → List ℕ
with_member n words = set words (n / 64) (bit_or (get_or words (n / 64) 0) (2 ^ (n % 64)))

-- The set without n, which was in it.
unfoldable pub without_member : ℕ → List ℕ → List ℕ
without_member n words = set words (n / 64) (bit_xor (get_or words (n / 64) 0) (2 ^ (n % 64)))

-- The answer is the first member from a place on that is below a count; the count, where there is none.
pub record FirstFrom (words : List ℕ) (from count answer : ℕ) : Type 0 where
  pub within : answer ≤ count
  pub none_before : (m : ℕ) → from ≤ m → m < answer → is_member words m ≡ false
  pub is_in_set : answer < count → (from ≤ answer) × (is_member words answer ≡ true)
