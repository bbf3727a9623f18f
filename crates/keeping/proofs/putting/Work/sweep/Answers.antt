use native.Mathlib.Omega.{arith}
use lib.ListN.{get_or}
use Rattle.plan.specs.Listed.{blocks_in}
use Rattle.keeping.specs.Work.{span_to, work_at}
use Rattle.keeping.proofs.Chosen.{first-chosen}
use Rattle.keeping.proofs.Sweeping.{sweep-turns}
use Rattle.keeping.proofs.putting.Work.sweep.Goals as goal

pub loop-n-smaller : goal.loop-n-smaller
loop-n-smaller c = let a = c.args in
    let group = a.group.now in
    let one = first-chosen (blocks_in a.plan.now) group.columns.now group.chosen group.sets.now c.requires.group_in.1 c.requires.group_in.0 in
    let so_far = c.loop-n.invariant (get_or group.chosen 0 0) one.0 one.1 in
    omega (arith, so_far.stands.to_in, c.loop-n-test.true)

pub loop-n-preserved : goal.loop-n-preserved
loop-n-preserved c = let a = c.args in
    let group = a.group.now in
    let l = c.loop-n in
    λ block inside own.
    sweep-turns group.columns.now a.plan.now c.requires.drawn_in group.chosen group.sets.now c.requires.group_in.0 block inside own (work_at a.self.now (span_to a.to)) l.n (work_at l.self l.span) (l.invariant block inside own) c.loop-n-test.true _ c.visit-span.ensures
