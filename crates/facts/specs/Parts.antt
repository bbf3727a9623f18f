-- A whole number by its two parts: what it is above 0, and what it is below. One of them is 0, and the number is the first less the second. Sums of
-- whole numbers are kept as two sums here, of what is above and of what is below, so that nothing is taken from anything; a number that is no more
-- than another is told by putting what is below 0 on the other side. Nothing here is a rule of the tool: definitions are put together of it, and `Whole`
-- has the same by whole numbers as they are.
use Rattle.std.specs.Prelude.{ℕ, suc, ◌+◌, ◌≡◌, Bool, leb, ℤ, pos, negsuc}
use Rattle.facts.specs.declared.parts.Parts.{Parts}

abbrev pub above : ℤ → ℕ
above (pos n) = n
above (negsuc n) = 0

abbrev pub below : ℤ → ℕ
below (pos n) = 0
below (negsuc n) = suc n

-- Whether a whole number is no more than another.
abbrev pub no_more : ℤ → ℤ → Bool
no_more a b = leb (above a + below b) (above b + below a)

-- These are a number's parts.
pub record PartsOf (number : ℤ) (parts : Parts) : Type 0 where
  pub above_is : parts.above ≡ above number
  pub below_is : parts.below ≡ below number
