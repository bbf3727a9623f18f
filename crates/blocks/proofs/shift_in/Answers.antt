use Prim.Native.Nat.{◌+◌, ◌-◌}
use native.Mathlib.Omega.{arith}
use mathlib.Core.Path.{◌∙◌}
use lib.ListN.{take, drop}
use Rattle.blocks.proofs.Shift.{shift-stores, shift-carries, shift-ends}
use Rattle.blocks.proofs.shift_in.Goals as goal

pub loop-slot-preserved : goal.loop-slot-preserved
loop-slot-preserved c = let a = c.args in
    let l = c.loop-slot in
    let part = take (a.count + 1 - a.place) (drop a.place a.blocks.now) in
    let stored = shift-stores part a.block l.part l.carried l.slot-index c.loop-slot-test.true l.invariant.1 l.invariant.2 in
    let carries = shift-carries part a.block l.part l.carried l.slot-index c.loop-slot-test.true l.invariant.1 l.invariant.2 in
    (omega arith, rw c.replace-carried.ensures.after stored, c.replace-carried.ensures.value ∙ carries)

pub returns : goal.returns
returns c = let a = c.args in
    let l = c.loop-slot in
    shift-ends a.blocks.now l.part a.place a.block (a.count + 1 - a.place) (a.count - a.place) l.slot-index (omega arith) (omega arith) l.invariant.0 c.loop-slot-test.false l.invariant.1
