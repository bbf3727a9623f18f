use Rattle.blocks.proofs.Copied.{patch-copied}
use Rattle.blocks.proofs.write_blocks.Goals as goal

pub returns : goal.returns
returns c = rw c.copy_from_slice.ensures.after (patch-copied c.args.blocks.now c.args.list.now c.args.count c.requires.0 c.requires.1)
