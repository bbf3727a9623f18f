use mathlib.Core.Path.{◌≡◌}
use Prim.Native.Nat.{◌<◌}
use native.Mathlib.Omega.{arith}
use lib.ListN.{get_or}
use Rattle.blocks.proofs.Arrays.{listing-size, put-place, put-there, put-counted, put-over, put-new}
use Rattle.blocks.proofs.put_block.Goals as goal
use Rattle.blocks.proofs.put_block.Goals.{else-place-count-via-then-place-count+else-blocks-place, else-place-count-via-else-place-count}

pub returns-then-blocks-place-clause-laid : goal.returns-then-blocks-place-clause-laid
returns-then-blocks-place-clause-laid c = let q = c.place_in-place in
    put-there c.args.most c.args.count c.args.blocks.now c.args.block q.result c.requires q.ensures c.if-place-count.true c.if-blocks-place.true

pub returns-then-most-count : goal.returns-then-most-count
returns-then-most-count c = let q = c.place_in-place in
    let new : q.result < c.args.count → get_or c.args.blocks.now q.result 0 ≡ c.args.block → ⊥ =
    elim c.else-place-count.branch [ else-place-count-via-then-place-count+else-blocks-place w ↦ λ h e. w.if-blocks-place.false e | else-place-count-via-else-place-count w ↦ λ h e. omega (arith, w.if-place-count.false, h) ]
    in
    record {
      laid = put-over c.args.most c.args.count c.args.blocks.now c.args.block q.result c.requires q.ensures new c.if-most-count.true;
      one_over = omega (arith, put-counted c.args.most c.args.count c.args.blocks.now c.args.block q.result c.requires q.ensures new, c.requires.short, c.if-most-count.true);
    }

pub shift_in-requires : goal.shift_in-requires
shift_in-requires c = let q = c.place_in-place in
    let e = listing-size c.args.most c.args.count c.args.blocks.now c.requires in
    let h = put-place c.args.most c.args.count c.args.blocks.now c.args.block q.result c.requires q.ensures in
    (omega arith, omega (arith, c.if-most-count.false))

pub returns-clause-laid : goal.returns-clause-laid
returns-clause-laid c = let q = c.place_in-place in
    put-new c.args.most c.args.count c.args.blocks.now c.args.block q.result c.requires q.ensures (elim c.else-place-count.branch [ else-place-count-via-then-place-count+else-blocks-place w ↦ λ h e. w.if-blocks-place.false e | else-place-count-via-else-place-count w ↦ λ h e. omega (arith, w.if-place-count.false, h) ]) c.if-most-count.false c.shift_in.new.blocks c.shift_in.ensures
