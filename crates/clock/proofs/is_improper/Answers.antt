use borrow.Author.Rules.{rules}
use mathlib.Core.Bool.{true}
use mathlib.Core.Path.{◌≡◌, sym}
use lib.Ieee.{of_bits}
use Rattle.std.specs.Float.{float_is_finite}
use Rattle.clock.proofs.Times.{improper_by}
use Rattle.clock.proofs.is_improper.Goals as goal

pub returns-else-not-is_finite : goal.returns-else-not-is_finite
unfolding of_bits
returns-else-not-is_finite c = let finite : float_is_finite c.args.time ≡ true = search rules in sym (rw finite at (improper_by c.args.time))
