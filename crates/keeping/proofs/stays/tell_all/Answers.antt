use mathlib.Core.Bool.{false}
use mathlib.Core.Path.{sym, subst}
use native.Mathlib.Omega.{arith}
use lib.ListN.{get_or-replicate}
use Rattle.chart.specs.Geometry.{most_nodes}
use Rattle.plan.specs.Listed.{nodes_in, blocks_in}
use Rattle.keeping.specs.declared.putting.Work.{Work}
use Rattle.keeping.specs.Starting.{ZerosFor}
use Rattle.keeping.proofs.Beginning.{all-reached}
use Rattle.keeping.proofs.Chosen.{new-round, records-touchable}
use Rattle.keeping.proofs.Told.{told-on}
use Rattle.keeping.proofs.stays.tell_all.Goals as goal

pub reach-requires-clause-group_in : goal.reach-requires-clause-group_in
reach-requires-clause-group_in c = let a = c.args in
    let blocks = c.blocks_in-blocks in
    let nodes = c.nodes_in-nodes in
    let inside = c.requires.first_bound.0 in
    let round = new-round a.columns.now a.sets.now (blocks_in a.plan.now) blocks.result blocks.ensures c.requires.drawn_in.few_blocks c.requires.sets_listed (λ key. omega (arith, c.fits-sets key)) (λ m. omega (arith, c.type_inv.columns m)) a.wanted a.first inside _ c.choose.ensures in
    (round.0, omega (arith, inside))

pub reach-requires-clause-zeros_for : goal.reach-requires-clause-zeros_for
reach-requires-clause-zeros_for c = let a = c.args in
    let few = c.requires.drawn_in.few_nodes in
    subst (λ (w : Work). ZerosFor (nodes_in a.plan.now) w) (sym c.new-work.ensures)
    (record { marks_zero = λ n h. get_or-replicate most_nodes n 0 0 (omega arith); words_zero = λ n h. get_or-replicate most_nodes n 0 0 (omega arith); due_zero = λ n h. get_or-replicate most_nodes n false false (omega arith) })

pub tell_chosen-requires-clause-records_touchable : goal.tell_chosen-requires-clause-records_touchable
tell_chosen-requires-clause-records_touchable c = let a = c.args in
    let blocks = c.blocks_in-blocks in
    let nodes = c.nodes_in-nodes in
    let inside = c.requires.first_bound.0 in
    let round = new-round a.columns.now a.sets.now (blocks_in a.plan.now) blocks.result blocks.ensures c.requires.drawn_in.few_blocks c.requires.sets_listed (λ key. omega (arith, c.fits-sets key)) (λ m. omega (arith, c.type_inv.columns m)) a.wanted a.first inside _ c.choose.ensures in
    records-touchable a.columns.now a.plan.now c.requires.drawn_in _ _ round.0 nodes.result nodes.ensures

pub tell_others-requires-clause-reached_in : goal.tell_others-requires-clause-reached_in
tell_others-requires-clause-reached_in c = let a = c.args in
    let blocks = c.blocks_in-blocks in
    let nodes = c.nodes_in-nodes in
    let inside = c.requires.first_bound.0 in
    let round = new-round a.columns.now a.sets.now (blocks_in a.plan.now) blocks.result blocks.ensures c.requires.drawn_in.few_blocks c.requires.sets_listed (λ key. omega (arith, c.fits-sets key)) (λ m. omega (arith, c.type_inv.columns m)) a.wanted a.first inside _ c.choose.ensures in (
      all-reached a.columns.now a.plan.now c.requires.drawn_in _ _ round.0 (omega (arith, inside)) _ _ c.reach.ensures,
      told-on a.columns.now a.plan.now c.requires.drawn_in _ _ round.0 _ _ a.stays.now _ nodes.result blocks.result a.wanted a.wanted c.left_after-left.result a.first nodes.ensures blocks.ensures c.requires.plan_in_bounds c.reach.ensures c.tell_chosen.ensures round.1 c.left_after-left.ensures c.requires.first_bound.1,
    )
