use native.Mathlib.Omega.{arith}
use Rattle.keeping.proofs.Told.{none_told, all_told}
use Rattle.keeping.proofs.stays.write_stays.Goals as goal

pub returns-then-first-blocks : goal.returns-then-first-blocks
returns-then-first-blocks c = let a = c.args in
    let next = c.next_wanted-first in
    all_told a.columns.now a.plan.now c.requires.drawn_in a.wanted a.wanted next.result a.stays.now (omega (arith, c.blocks_in-blocks.ensures, c.if-first-blocks.true))
    (none_told a.columns.now a.plan.now c.requires.drawn_in a.wanted c.blocks_in-blocks.result next.result a.stays.now next.ensures)
