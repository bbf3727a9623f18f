use borrow.Author.Rules.{rules}
use Rattle.chart.specs.Reading.{reading_of}
use Rattle.chart.proofs.readings.refuse.Goals as goal

pub returns : goal.returns
unfolding reading_of
returns c = search rules
