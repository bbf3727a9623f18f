use mathlib.Core.Path.{◌∙◌}
use Prim.Native.Nat.{◌+◌, ◌-◌, ◌/◌, ◌<◌}
use native.Mathlib.Omega.{arith}
use Rattle.blocks.proofs.Halving.{halvings-turn}
use Rattle.blocks.proofs.Search.{climbs, place-within, search-turn, same_place}
use Rattle.blocks.proofs.place_by_halves.Goals as goal

pub loop-left-init : goal.loop-left-init
loop-left-init c = omega (arith, place-within c.args.blocks.now c.args.count c.args.block c.requires.count_in_bounds)

pub loop-left-preserved : goal.loop-left-preserved
loop-left-preserved c = let l = c.loop-left in
    let middle = l.place + (l.left - l.left / 2) - 1 in
    let last = climbs c.args.blocks.now c.args.count c.args.block c.requires.count_in_bounds c.requires.ascending (c.args.count - 1) (omega (arith, l.invariant)) in
    let short : l.left - l.left / 2 < 4294967296 = omega (arith, last, c.type_inv.blocks (c.args.count - 1), l.invariant) in
    search-turn c.args.blocks.now c.args.count c.args.block c.requires.count_in_bounds c.requires.ascending l.place l.left middle c.below_mask.result c.below_mask.ensures l.invariant (omega arith) (omega arith) short

pub loop-left-smaller : goal.loop-left-smaller
loop-left-smaller c = omega (arith, halvings-turn c.loop-left.left (omega arith))

pub place_by_count-requires-clause-place_bound : goal.place_by_count-requires-clause-place_bound
place_by_count-requires-clause-place_bound c = let l = c.loop-left in
    let same = same_place c.args.blocks.now c.args.count c.args.block c.requires.count_in_bounds c.requires.ascending (l.place + l.left) l.invariant.inside l.invariant.kept in rw same l.invariant.passed

pub returns : goal.returns
returns c = let l = c.loop-left in
    c.place_by_count.ensures ∙ same_place c.args.blocks.now c.args.count c.args.block c.requires.count_in_bounds c.requires.ascending (l.place + l.left) l.invariant.inside l.invariant.kept
