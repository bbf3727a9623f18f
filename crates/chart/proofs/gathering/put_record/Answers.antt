use borrow.Author.Tests.{eq-eqb, ne_eqb}
use lib.ListN.{drop}
use Rattle.blocks.proofs.Arrays.{put-none, put-over-all, put-listing, put_both}
use Rattle.chart.specs.Geometry.{most_blocks}
use Rattle.chart.specs.Record.{both_touched, touches_of, blocks_of}
use Rattle.chart.proofs.gathering.put_record.Goals as goal

pub returns-in_default : goal.returns-in_default
unfolding touches_of
returns-in_default c = rw c.in_default.is (put-none most_blocks c.args.count c.args.blocks.now c.requires.listing)

pub returns-in_err-more : goal.returns-in_err-more
unfolding touches_of
returns-in_err-more c = let touched = both_touched c.in-Some.reference.write c.block_of-lower.result c.block_of-upper.result in
    rw (c.in-Some.is, c.from_residual.ensures, ← c.block_of-lower.ensures, ← c.block_of-upper.ensures)
    (put-over-all most_blocks c.args.count c.args.blocks.now c.block_of-lower.result c.put_block.new.blocks c.requires.listing (drop 1 (blocks_of touched)) c.in_err-more.ensures.laid)

pub returns-then-lower-upper : goal.returns-then-lower-upper
unfolding touches_of
returns-then-lower-upper c = rw (c.in-Some.is, ← c.block_of-lower.ensures, ← c.block_of-upper.ensures, eq-eqb _ _ c.if-lower-upper.true) c.in_ok-more.ensures.laid

pub put_block-requires-2 : goal.put_block-requires-2
put_block-requires-2 c = put-listing most_blocks c.args.count c.args.blocks.now c.block_of-lower.result c.put_block.new.blocks c.requires.listing c.in_ok-more.more c.in_ok-more.ensures.laid

pub returns : goal.returns
unfolding touches_of
returns c = let q = c.put_block-2 in
    rw (c.in-Some.is, ← c.block_of-lower.ensures, ← c.block_of-upper.ensures, ne_eqb _ _ c.if-lower-upper.false)
    (put_both most_blocks c.args.count c.args.blocks.now c.block_of-lower.result c.put_block.new.blocks c.requires.listing c.in_ok-more.more c.in_ok-more.ensures.laid
    c.block_of-upper.result q.result q.new.blocks q.ensures.laid)
