use Rattle.chart.specs.Geometry.{set_of}
use Rattle.lists.proofs.Shifts.{one_shifted}
use Rattle.chart.proofs.Numbers.{none-masked}
use Rattle.chart.proofs.shape.Geometry.set_of.Goals as goal

pub returns-then-sets-lt32 : goal.returns-then-sets-lt32
unfolding set_of
returns-then-sets-lt32 c = rw (one_shifted 32 c.args.self.sets c.if-sets-lt32.true)

pub returns-else-sets-lt32 : goal.returns-else-sets-lt32
unfolding set_of
returns-else-sets-lt32 c = rw (none-masked 32 c.args.self.sets c.args.block c.if-sets-lt32.false c.ranges.block.fits)

-- no goal now for the old nonzero-rem-result
