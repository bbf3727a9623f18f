-- Lists of blocks in arrays.
-- Nothing here is a rule of the tool: contracts of inner functions speak of it.
use Rattle.std.specs.Prelude.{ℕ, ◌≤◌, ◌<◌, List, ◌≡◌, get_or, length, take, Option, IfSome, IfNone}
use Rattle.lists.specs.Lists.{padded}

-- The first n places of a list, each above the one before.
abbrev pub Ascending : ℕ → List ℕ → Type 0
Ascending n l = (i j : ℕ) → i < j → j < n → get_or l i 0 < get_or l j 0

-- An array of `size` places whose first `count` are an ascending list, and the rest 0.
pub record Listing (size count : ℕ) (array : List ℕ) : Type 0 where
  pub short : count ≤ size
  pub laid : array ≡ padded size (take count array)
  pub ascending : Ascending count array

-- An array after a list was laid into it: how long the list is, and the array; or nothing, where there is no room.
pub record Laid (size : ℕ) (l : List ℕ) (answer : Option ℕ) (array : List ℕ) : Type 0 where
  pub within : IfSome answer (λ count. (count ≡ length l) × (count ≤ size) × (array ≡ padded size l))
  pub over : IfNone answer (size < length l)
