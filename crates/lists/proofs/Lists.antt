-- Laws of a list at the start of an array.
use mathlib.Core.List.{List}
use mathlib.Core.Path.{◌≡◌}
use Prim.Native.Nat.{ℕ, zero, ◌-◌, ◌≤◌, ◌<◌}
use native.Mathlib.Omega.{arith}
use lib.ListN.{length, get_or, replicate, length-append, length-replicate, get_or-append}
use Rattle.lists.specs.Lists.{padded}

pub length-padded : (size : ℕ) (l : List ℕ) → length l ≤ size → length (padded size l) ≡ size
length-padded size l h = omega (arith, length-append l (replicate (size - length l) 0), length-replicate (size - length l) (zero))

pub get_or-padded : (size : ℕ) (l : List ℕ) (i : ℕ) → i < length l → get_or (padded size l) i 0 ≡ get_or l i 0
get_or-padded size l i h = get_or-append l (replicate (size - length l) 0) 0 i h
