use Prim.Native.Nat.{◌-◌, ◌≤◌, ◌<◌}
use mathlib.Core.Bool.{true}
use mathlib.Core.Path.{◌≡◌}
use lib.ListN.{length}
use Rattle.bits.specs.Bits.{is_member}
use Rattle.plan.specs.AsPlan.{drawn_as}
use Rattle.settling.specs.Inner.{GoneTo}
use Rattle.settling.proofs.settling.pass.Given as goal

abbrev pub invariant-loop-n : goal.invariant-loop-n
invariant-loop-n l = (l.n ≤ l.nodes) × ((length l.must ≡ length l.initial.must) × ((length l.may ≡ length l.initial.may) × ((length l.marks ≡ length l.initial.marks) × ((length l.due ≡ length l.initial.due) × ((l.n < l.nodes → is_member l.due l.n ≡ true)
    × GoneTo (drawn_as l.plan) (record { must = l.initial.must; may = l.initial.may; marks = l.initial.marks }) l.n (record { lent = record { must = l.must; may = l.may; marks = l.marks }; changed = l.changed; due = l.due }))))))

abbrev pub decreases-loop-n : goal.decreases-loop-n
decreases-loop-n l = l.nodes - l.n
