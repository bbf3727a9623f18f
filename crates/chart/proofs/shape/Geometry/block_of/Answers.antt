use borrow.Author.Rules.{rules}
use Rattle.chart.specs.Geometry.{block_of}
use Rattle.chart.proofs.Numbers.{all-shifted-out}
use Rattle.chart.proofs.shape.Geometry.block_of.Goals as goal

pub returns-then-line-lt32 : goal.returns-then-line-lt32
unfolding block_of
returns-then-line-lt32 c = search rules

pub returns-else-line-lt32 : goal.returns-else-line-lt32
unfolding block_of
returns-else-line-lt32 c = rw (all-shifted-out 32 c.args.self.line c.args.address c.if-line-lt32.false c.ranges.address.fits)
