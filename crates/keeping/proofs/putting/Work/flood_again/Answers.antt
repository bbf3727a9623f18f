use Prim.Native.Nat.{ℕ}
use mathlib.Core.List.{List, ◌++◌}
use mathlib.Core.Path.{◌≡◌, refl, sym, subst, ◌∙◌}
use native.Mathlib.Omega.{arith}
use lib.ListN.{length, take, drop}
use Rattle.std.proofs.lemmas.List.{get_or_append_left, length-take}
use Rattle.keeping.specs.declared.putting.Work.{Work}
use Rattle.keeping.specs.Work.{span_to, work_at}
use Rattle.keeping.specs.Flood.{AllStand}
use Rattle.keeping.specs.Starting.{due_all}
use Rattle.keeping.proofs.Beginning.{due-at, block-stands}
use Rattle.keeping.proofs.putting.Work.flood_again.Goals as goal

pub flood-requires-clause-stand_in : goal.flood-requires-clause-stand_in
flood-requires-clause-stand_in c = let a = c.args in
    let group = a.group.now in
    let work = a.self.now in
    let nodes = c.nodes_in-nodes in
    let few = c.requires.drawn_in.few_nodes in
    let cleared : List ℕ = c.fill.new.self ++ drop nodes.result work.words in
    let due = due_all a.plan.now group.chosen work.marks nodes.result work.due in
    let long : length (take nodes.result work.words) ≡ nodes.result = length-take nodes.result work.words ∙ omega (arith, few, nodes.ensures) in
    subst (λ (w : Work). AllStand group.columns.now a.plan.now group.chosen 0 (work_at w (span_to nodes.result))) (sym c.mark_due.ensures)
    (subst (λ (k : ℕ). AllStand group.columns.now a.plan.now group.chosen 0 (record { marks = work.marks; words = cleared; due = due; span = span_to k })) (sym nodes.ensures)
    (λ block inside own. block-stands group.columns.now a.plan.now c.requires.drawn_in block inside group.chosen group.sets.now c.requires.group_in.0 own work.marks cleared due c.requires.reached_in
    (λ n h. get_or_append_left c.fill.new.self (drop nodes.result work.words) 0 n (omega (arith, c.fill.ensures.len, long, nodes.ensures)) ∙ c.fill.ensures.clones n 0 (omega (arith, long, nodes.ensures)) refl)
    (λ n h. due-at a.plan.now group.chosen work.marks work.due nodes.result n (omega (arith, few, nodes.ensures)) (omega (arith, nodes.ensures)))))
