use lib.ListN.{take}
use Rattle.blocks.specs.Blocks.{place_in}
use Rattle.blocks.proofs.Halving.{Between, halvings}
use Rattle.blocks.proofs.place_by_halves.Given as goal

abbrev pub invariant-loop-left : goal.invariant-loop-left
invariant-loop-left l = Between l.count l.place l.left (place_in (take l.count l.blocks) l.block)

abbrev pub decreases-loop-left : goal.decreases-loop-left
decreases-loop-left l = halvings l.left
