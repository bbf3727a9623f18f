use Prim.Native.Nat.{◌+◌, ◌<◌}
use native.Mathlib.Omega.{arith}
use Rattle.plan.specs.Listed.{blocks_in}
use Rattle.keeping.proofs.Beginning.{all-reached}
use Rattle.keeping.proofs.Chosen.{new-round, records-touchable}
use Rattle.keeping.proofs.Told.{told-on, told-up-to, all_told}
use Rattle.keeping.proofs.stays.tell_others.Goals as goal

pub flood_again-requires-clause-group_in : goal.flood_again-requires-clause-group_in
flood_again-requires-clause-group_in c = let a = c.args in
    let l = c.loop-block in
    let blocks = c.blocks_in-blocks in
    let nodes = c.nodes_in-nodes in
    let inside : l.block < blocks_in a.plan.now = omega (arith, c.loop-block-test.true, blocks.ensures) in
    let round = new-round a.columns.now a.sets.now (blocks_in a.plan.now) blocks.result blocks.ensures c.requires.drawn_in.few_blocks c.requires.sets_listed (λ key. omega (arith, c.fits-sets key)) (λ m. omega (arith, c.type_inv.columns m)) l.left l.block inside _ c.choose.ensures in
    (round.0, omega (arith, inside))

pub tell_chosen-requires-clause-records_touchable : goal.tell_chosen-requires-clause-records_touchable
tell_chosen-requires-clause-records_touchable c = let a = c.args in
    let l = c.loop-block in
    let blocks = c.blocks_in-blocks in
    let nodes = c.nodes_in-nodes in
    let inside : l.block < blocks_in a.plan.now = omega (arith, c.loop-block-test.true, blocks.ensures) in
    let round = new-round a.columns.now a.sets.now (blocks_in a.plan.now) blocks.result blocks.ensures c.requires.drawn_in.few_blocks c.requires.sets_listed (λ key. omega (arith, c.fits-sets key)) (λ m. omega (arith, c.type_inv.columns m)) l.left l.block inside _ c.choose.ensures in
    records-touchable a.columns.now a.plan.now c.requires.drawn_in _ a.sets.now round.0 nodes.result nodes.ensures

pub loop-block-preserved : goal.loop-block-preserved
loop-block-preserved c = let a = c.args in
    let l = c.loop-block in
    let blocks = c.blocks_in-blocks in
    let nodes = c.nodes_in-nodes in
    let inside : l.block < blocks_in a.plan.now = omega (arith, c.loop-block-test.true, blocks.ensures) in
    let round = new-round a.columns.now a.sets.now (blocks_in a.plan.now) blocks.result blocks.ensures c.requires.drawn_in.few_blocks c.requires.sets_listed (λ key. omega (arith, c.fits-sets key)) (λ m. omega (arith, c.type_inv.columns m)) l.left l.block inside _ c.choose.ensures in
    let flooding = c.flood_again in
    let telling = c.tell_chosen in
    let taking = c.left_after-left in
    let next = c.next_wanted-block-in-loop-block in (
      all-reached a.columns.now a.plan.now c.requires.drawn_in _ a.sets.now round.0 (omega (arith, inside)) _ _ flooding.ensures,
      told-up-to a.columns.now a.plan.now c.requires.drawn_in a.wanted taking.result (l.block + 1) blocks.result next.result _ next.ensures
          (told-on a.columns.now a.plan.now c.requires.drawn_in _ a.sets.now round.0 _ _ l.stays _ nodes.result blocks.result a.wanted l.left taking.result l.block nodes.ensures blocks.ensures (omega (arith, c.requires.plan_in_bounds, l.auto.stays)) flooding.ensures telling.ensures round.1 taking.ensures l.invariant.1),
    )

pub returns : goal.returns
returns c = let a = c.args in
    let l = c.loop-block in
    all_told a.columns.now a.plan.now c.requires.drawn_in a.wanted l.left l.block l.stays (omega (arith, c.blocks_in-blocks.ensures)) l.invariant.1
