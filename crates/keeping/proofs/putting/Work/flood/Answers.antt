use Prim.Native.Nat.{◌<◌}
use native.Mathlib.Omega.{arith}
use lib.ListN.{get_or}
use Rattle.plan.specs.Listed.{blocks_in}
use Rattle.keeping.specs.Work.{span_to, work_at}
use Rattle.keeping.proofs.Chosen.{first-chosen}
use Rattle.keeping.proofs.Sweeping.{sweeps-less, sweeps-end}
use Rattle.keeping.proofs.putting.Work.flood.Goals as goal

pub loop-low-smaller : goal.loop-low-smaller
loop-low-smaller c = let a = c.args in
    let group = a.group.now in
    let l = c.loop-low in
    let one = first-chosen (blocks_in a.plan.now) group.columns.now group.chosen group.sets.now c.requires.group_in.1 c.requires.group_in.0 in
    let more : l.low < l.high = omega arith in
    sweeps-less group.columns.now a.plan.now (get_or group.chosen 0 0) _ _ (c.sweep-span.ensures (get_or group.chosen 0 0) one.0 one.1) l.low l.high more

pub returns : goal.returns
returns c = let a = c.args in
    let l = c.loop-low in
    λ block inside own. sweeps-end a.group.now.columns.now a.plan.now c.requires.drawn_in block inside l.low l.high (work_at l.self (span_to l.high)) (omega arith) (l.invariant block inside own)
