use Prim.Native.Nat.{◌^◌, ◌<◌}
use native.Mathlib.Omega.{arith}
use lib.Bits.{bit_and, and_le_l}
use lib.ListN.{get_or}
use Rattle.keeping.specs.Words.{stays_in}
use Rattle.keeping.proofs.Ones.{bit-counted}
use Rattle.keeping.proofs.words.Group.stays_in.Goals as goal

pub overflow_sub-others : goal.overflow_sub-others
overflow_sub-others c = let a = c.args in
    let less = and_le_l a.word (get_or a.self.now.sets.now c.from-key.result 0) in
    let fits : bit_and a.word (get_or a.self.now.sets.now c.from-key.result 0) < 2 ^ 64 = omega arith in
    rw c.from.ensures (bit-counted 64 (bit_and a.word (get_or a.self.now.sets.now c.from-key.result 0)) a.block fits c.requires.column_in)

pub returns : goal.returns
unfolding stays_in
returns c = rw (c.from.ensures, c.from-2.ensures, c.from-key.ensures)
