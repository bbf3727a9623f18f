use Prim.Native.Nat.{ℕ, ◌+◌}
use mathlib.Core.Bool.{true}
use mathlib.Core.Path.{sym, subst}
use native.Mathlib.Omega.{arith}
use lib.ListN.{set}
use Rattle.keeping.specs.Work.{span_to}
use Rattle.keeping.specs.Flood.{AllStand}
use Rattle.keeping.proofs.Beginning.{entry-stands}
use Rattle.keeping.proofs.putting.Work.reach.Goals as goal

pub flood-requires-clause-stand_in : goal.flood-requires-clause-stand_in
flood-requires-clause-stand_in c = let a = c.args in
    let group = a.group.now in
    let work = a.self.now in
    let few = c.requires.drawn_in.few_nodes in
    subst (λ (k : ℕ). AllStand group.columns.now a.plan.now group.chosen k (record { marks = set work.marks k 1; words = work.words; due = set work.due k true; span = span_to (k + 1) }))
    (sym c.entry_in-entry.ensures)
    (λ block inside own. entry-stands group.columns.now a.plan.now c.requires.drawn_in block inside work.marks work.words work.due (record { marks_room = omega (arith, few); words_room = omega (arith, few); due_room = omega (arith, few) }) c.requires.zeros_for)
