use borrow.Author.Rules.{rules}
use mathlib.Core.Path.{◌≡◌, ap}
use Prim.Native.Nat.{◌+◌}
use Rattle.std.specs.Prelude.{Some, None}
use Rattle.std.proofs.lemmas.Result.{err_from_is_err_and}
use Rattle.lists.proofs.Choice.{first-begins, first_passes}
use Rattle.blocks.specs.Blocks.{gathered}
use Rattle.blocks.specs.Listing.{Laid}
use Rattle.blocks.proofs.Arrays.{gathered_none, gather-listing, gather-over, gather-within}
use Rattle.refusals.specs.declared.Refusal.TheVariants.{TooManyBlocks}
use Rattle.chart.specs.declared.records.Node.{Node}
use Rattle.chart.specs.declared.records.Reference.{Reference}
use Rattle.chart.specs.Chart.{records_in, blocks_at, overfull_at}
use Rattle.chart.specs.Geometry.{most_blocks}
use Rattle.chart.proofs.Reader.{gather-turn, gathers-over, gathers-all}
use Rattle.chart.proofs.gathering.gather.Goals as goal

pub loop-n-init : goal.loop-n-init
loop-n-init c = let t = blocks_at c.args.geometry (records_in c.args.chart.now) in (
  search rules,
  (
    search rules,
    (
      search rules,
      (
        rw (gathered_none t),
        (rw (gathered_none t) c.requires.blocks_value, first-begins c.args.nodes (overfull_at c.args.geometry (records_in c.args.chart.now))),
      ),
    ),
  ),
)

pub put_record-requires-clause-listing : goal.put_record-requires-clause-listing
put_record-requires-clause-listing c = let a = c.args in
    let l = c.loop-n in gather-listing most_blocks (blocks_at a.geometry (records_in a.chart.now)) l.n l.count l.blocks l.invariant.1.0 l.invariant.1.1.1.0 l.invariant.1.1.1.1.0

pub returns-in_err-count : goal.returns-in_err-count
returns-in_err-count c = let a = c.args in
    let l = c.loop-n in
    let turn : Laid most_blocks (gathered (blocks_at a.geometry (records_in a.chart.now)) (l.n + 1)) c.put_record.result c.put_record.new.blocks =
    gather-turn (records_in a.chart.now) a.geometry l.n l.count l.blocks l.invariant.1.0 l.invariant.1.1.1.0 l.invariant.1.1.1.1.0 c.node_at-what.result.what (ap (λ (node : Node Reference). node.what) c.node_at-what.ensures) c.put_record.result c.put_record.new.blocks c.put_record.ensures
    in
    let none : c.put_record.result ≡ None = c.in_err-count.ensures.ok_part in
    let refusal : c.in_err-count.field-0.0 ≡ TooManyBlocks l.n = cc (rw none at c.in_err-count.ensures.value) in
    let given = err_from_is_err_and c.from_residual.result c.from_residual.ensures.1 in
    rw (given.1, given.2, refusal)
    (gathers-over (records_in a.chart.now) a.geometry a.nodes l.n c.put_record.new.blocks l.invariant.1.1.1.1.1 c.loop-n-test.true
    (gather-over most_blocks (blocks_at a.geometry (records_in a.chart.now)) l.n c.put_record.new.blocks (rw none at turn)))

pub loop-n-preserved : goal.loop-n-preserved
loop-n-preserved c = let a = c.args in
    let l = c.loop-n in
    let turn : Laid most_blocks (gathered (blocks_at a.geometry (records_in a.chart.now)) (l.n + 1)) c.put_record.result c.put_record.new.blocks =
    gather-turn (records_in a.chart.now) a.geometry l.n l.count l.blocks l.invariant.1.0 l.invariant.1.1.1.0 l.invariant.1.1.1.1.0 c.node_at-what.result.what (ap (λ (node : Node Reference). node.what) c.node_at-what.ensures) c.put_record.result c.put_record.new.blocks c.put_record.ensures
    in
    let some : c.put_record.result ≡ Some c.in_ok-count.count = c.in_ok-count.ensures.ok_part in
    let there = rw some at turn in (
      search rules,
      (
        there.within.1,
        (
          search rules,
          (
            there.within.0,
            (
              there.within.2,
              first_passes a.nodes l.n (overfull_at a.geometry (records_in a.chart.now)) c.loop-n-test.true
                  (gather-within most_blocks (blocks_at a.geometry (records_in a.chart.now)) l.n c.put_record.new.blocks c.in_ok-count.count there) l.invariant.1.1.1.1.1,
            ),
          ),
        ),
      ),
    )

pub returns : goal.returns
returns c = let a = c.args in
    let l = c.loop-n in
    gathers-all (records_in a.chart.now) a.geometry a.nodes l.n l.blocks l.invariant.1.1.1.1.1 l.invariant.0 c.loop-n-test.false l.count l.invariant.1.1.1.0 l.invariant.1.1.1.1.0
