-- What the checker answers for a plan: from the tests of the table's used parts, which alone are handed on, to `checked_by`.
use Rattle.std.specs.Prelude.{Err, Ok}
use Prim.Native.Nat.{ℕ, ◌*◌, ◌≤◌}
use mathlib.Core.Bool.{Bool, true, false, ◌||◌}
use mathlib.Core.List.{List}
use mathlib.Core.Path.{◌≡◌, sym, ◌∙◌}
use native.Mathlib.Nat.{mul-le-mul}
use native.Mathlib.Omega.{arith}
use lib.Dec.{ltb}
use lib.ListN.{length, take}
use lib.Seq.{length-take-le}
use Rattle.refusals.specs.declared.Refusal.TheVariants.{ShortBuffer}
use Rattle.chart.specs.Geometry.{most_nodes, most_blocks}
use Rattle.ages.specs.Plan.{Plan}
use Rattle.plan.specs.Listed.{nodes_in, blocks_in, plan_in, Drawn}
use Rattle.tables.specs.Lent.{Lent, table_short}
use Rattle.tables.specs.Inner.{Roomy, used_part}
use Rattle.tables.proofs.Laid.{long-enough}
use Rattle.tables.proofs.Used.{part_same}
use Rattle.checker.specs.Checker.{passing, checked_by}
use Rattle.checker.proofs.Used.{passing-used}

module _ {columns plan : List ℕ} (drawn : Drawn columns plan) (lent : Lent) {nodes blocks : ℕ} (nodes_are : nodes ≡ nodes_in plan) (blocks_are : blocks ≡ blocks_in plan) where
  abbrev held : Plan
  held = plan_in columns plan

  pub few-ages : nodes * blocks ≤ most_nodes * most_blocks
  few-ages = rw (nodes_are, blocks_are) (mul-le-mul drawn.few_nodes drawn.few_blocks)

  -- Whether the table is too short, as it is tested.
  abbrev short : Bool
  short =
      ltb (length lent.must) (nodes * blocks)
      || (ltb (length lent.may) (nodes * blocks) || ltb (length lent.marks) nodes)

  short-is : short ≡ table_short held lent
  short-is = λ i.
      ltb (length lent.must) (nodes_are i * blocks_are i)
      || (ltb (length lent.may) (nodes_are i * blocks_are i) || ltb (length lent.marks) (nodes_are i))

  pub short-answer : short ≡ true → Err ShortBuffer ≡ checked_by held lent
  unfolding checked_by
  short-answer e = rw (← short-is, e)

  module _ (e : short ≡ false) where
    -- The used parts are there.
    pub buffers-long : (nodes * blocks ≤ length lent.must) × ((nodes * blocks ≤ length lent.may) × (nodes ≤ length lent.marks))
    buffers-long = rw (nodes_are, blocks_are) (long-enough held lent (sym short-is ∙ e))

    abbrev part : Lent
    part =
        record {
          must = take (nodes * blocks) lent.must;
          may = take (nodes * blocks) lent.may;
          marks = take nodes lent.marks;
        }

    pub part-roomy : Roomy (nodes_in plan) (blocks_in plan) part.must part.may part.marks
    part-roomy =
        rw (← nodes_are, ← blocks_are)
        (record {
          must_room = omega (arith, length-take-le (nodes * blocks) lent.must buffers-long.0);
          may_room = omega (arith, length-take-le (nodes * blocks) lent.may buffers-long.1.0);
          marks_room = omega (arith, length-take-le nodes lent.marks buffers-long.1.1);
        })

    -- They pass or fail as the whole.
    part-passing : passing held part ≡ passing held lent
    part-passing =
        (λ i. passing held (record {
          must = take (nodes_are i * blocks_are i) lent.must;
          may = take (nodes_are i * blocks_are i) lent.may;
          marks = take (nodes_are i) lent.marks;
        }))
        ∙ passing-used held drawn.sound (used_part held lent) lent (part_same held lent (sym short-is ∙ e))

    pub long-answer : {pass : Bool} → pass ≡ passing held part → Ok pass ≡ checked_by held lent
    unfolding checked_by
    long-answer {pass} p = let passed : pass ≡ passing held lent = p ∙ part-passing in rw (← short-is, e, passed)
