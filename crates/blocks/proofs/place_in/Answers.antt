use Rattle.blocks.proofs.Search.{place-past-all}
use Rattle.blocks.proofs.place_in.Goals as goal

pub returns-then-blocks-count : goal.returns-then-blocks-count
returns-then-blocks-count c = place-past-all c.args.blocks.now c.args.count c.args.block c.requires.count_in_bounds c.requires.ascending c.if-count-gt0.true c.if-blocks-count.true
