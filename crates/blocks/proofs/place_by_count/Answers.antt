use mathlib.Core.Path.{ap, ◌∙◌}
use Prim.Native.Nat.{ℕ, ◌+◌, ◌-◌, ◌<◌}
use native.Mathlib.Omega.{arith}
use mir.Val.{bool_byte}
use lib.Dec.{ltb}
use lib.ListN.{drop, length-drop}
use lib.Seq.{get_or-take, get_or-drop, length-take-le}
use Rattle.blocks.proofs.Search.{count_turn, place-within}
use Rattle.blocks.proofs.place_by_count.Goals as goal

pub loop-other-preserved : goal.loop-other-preserved
loop-other-preserved c = let a = c.args in
    let l = c.loop-other in
    let n = a.place + a.left - a.place in
    let long = length-take-le n (drop a.place a.blocks.now) (omega (arith, length-drop a.place a.blocks.now)) in
    let inside : l.other-index < n = omega (arith, long) in
    let read = get_or-take n (drop a.place a.blocks.now) l.other-index 0 inside ∙ get_or-drop a.place a.blocks.now l.other-index 0 in
    let turn = count_turn a.blocks.now (a.place + a.left) a.block c.requires.left_bound.1 c.requires.ascending (a.place + l.other-index) (omega arith) in
    (omega arith, omega (arith, turn, ap (λ (x : ℕ). bool_byte (ltb x a.block)) read, l.invariant.1))

pub returns : goal.returns
returns c = let a = c.args in
    let long = length-take-le (a.place + a.left - a.place) (drop a.place a.blocks.now) (omega (arith, length-drop a.place a.blocks.now)) in
    omega (arith, long, place-within a.blocks.now (a.place + a.left) a.block c.requires.left_bound.1)
