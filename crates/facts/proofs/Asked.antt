-- The tests of one whole number, as the parts of it have them.
use mathlib.Core.Bool.{◌&&◌}
use mathlib.Core.Path.{◌≡◌, sym}
use Prim.Native.Nat.{ℕ, suc}
use native.Mathlib.Omega.{arith}
use lib.Dec.{leb, eqb}
use lib.IntN.{ℤ, pos, negsuc, nat_abs}
use lib.Signed.{le_z}
use borrow.Author.Tests.{le-leb, ne_eqb}
use Rattle.lists.proofs.Choice.{and_last}
use Rattle.facts.specs.Parts.{above, below}

-- No more than so much above 0 and below it.
pub size-within : (most : ℕ) (number : ℤ) → leb (nat_abs number) most ≡ (leb (above number) most && leb (below number) most)
size-within most (pos n) = rw (le-leb 0 most (omega arith)) (sym (and_last (leb n most)))
size-within most (negsuc n) = rw (le-leb 0 most (omega arith))

-- No less than 0: nothing below it; and the other way round.
pub not-below : (number : ℤ) → le_z (pos 0) number ≡ eqb (below number) 0
not-below (pos n) = rw (le-leb 0 n (omega arith))
not-below (negsuc n) = sym (ne_eqb (suc n) 0 (λ e. omega arith))
