use Prim.Native.Nat.{◌+◌, ◌-◌, ◌*◌, ◌≤◌}
use mathlib.Core.Path.{◌≡◌}
use lib.ListN.{length}
use Rattle.bits.specs.Bits.{is_member}
use Rattle.chart.specs.Geometry.{most_nodes}
use Rattle.flow.specs.Pass.{after_passes}
use Rattle.flow.specs.Underway.{SettlesFrom}
use Rattle.flow.specs.Working.{Working}
use Rattle.ages.specs.Plan.{plan_flow}
use Rattle.plan.specs.AsPlan.{drawn_as}
use Rattle.tables.specs.Lent.{Lent, over}
use Rattle.settling.proofs.settling.settle.Given as goal

abbrev pub invariant-loop-made : goal.invariant-loop-made
invariant-loop-made l = (l.made ≤ l.allowance + 1) × ((length l.must ≡ length l.initial.must) × ((length l.may ≡ length l.initial.may) × ((length l.marks ≡ length l.initial.marks) × ((64 * length l.due ≡ most_nodes)
    × ((◌≡◌ {A = Lent} (record { must = l.must; may = l.may; marks = l.marks }) (over (drawn_as l.plan) (after_passes (plan_flow (drawn_as l.plan)) (l.made - 1)) (record { must = l.initial.must; may = l.initial.may; marks = l.initial.marks })))
    × (Working (plan_flow (drawn_as l.plan)) (after_passes (plan_flow (drawn_as l.plan)) (l.made - 1)) (is_member l.due) × SettlesFrom (plan_flow (drawn_as l.plan)) l.allowance (l.made - 1)))))))
