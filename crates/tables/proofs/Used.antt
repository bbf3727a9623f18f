-- Lent tables whose used parts are the same hold the same table.
use Prim.Native.Nat.{ℕ, ◌≤◌, ◌<◌}
use mathlib.Core.Bool.{false}
use mathlib.Core.List.{List}
use mathlib.Core.Path.{◌≡◌, sym, ◌∙◌, subst}
use native.Mathlib.Omega.{arith}
use lib.ListN.{get_or, length, take}
use lib.Seq.{length-take-le, take-take}
use Rattle.lists.proofs.Listed.{take-agree}
use Rattle.flow.specs.Passing.{Passing}
use Rattle.layout.proofs.Fitting.{table_same}
use Rattle.layout.proofs.Laid.{row-used}
use Rattle.ages.specs.Plan.{Plan, plan_flow}
use Rattle.tables.specs.Lent.{Lent, ages_used, marks_used, ages_at, table_of, table_short, TablePasses, SameUsed}
use Rattle.tables.specs.Inner.{used_part}
use Rattle.tables.proofs.Laid.{long-enough, not_short}

pub same-used-back : (plan : Plan) (one other : Lent) → SameUsed plan one other → SameUsed plan other one
same-used-back plan one other same =
    record {
      must = sym same.must;
      may = sym same.may;
      marks = sym same.marks;
      one_long = same.other_long;
      other_long = same.one_long;
    }

module _ (plan : Plan) (one other : Lent) (same : SameUsed plan one other) where
  pub used-mark : (n : ℕ) → n < plan.nodes → get_or one.marks n 0 ≡ get_or other.marks n 0
  used-mark n h = take-agree (marks_used plan) one.marks other.marks 0 n h same.marks

  used-ages : (n : ℕ) → n < plan.nodes → ages_at plan one n ≡ ages_at plan other n
  used-ages n h =
      λ i. record {
        must = row-used plan.blocks plan.nodes one.must other.must same.must n h i;
        may = row-used plan.blocks plan.nodes one.may other.may same.may n h i;
      }

  pub used-table : table_of plan one ≡ table_of plan other
  used-table =
      table_same plan.nodes (ages_at plan one) (ages_at plan other) one.marks other.marks used-mark used-ages

  pub used-passing : TablePasses plan one → TablePasses plan other
  used-passing p =
      let long = long-enough plan other same.other_long in
      record {
        must_long = long.0;
        may_long = long.1.0;
        marks_long = long.1.1;
        marks_plain = λ n h. omega (arith, used-mark n h, p.marks_plain n h);
        unmarked-zero = λ n h z. sym (used-ages n h) ∙ p.unmarked-zero n h (used-mark n h ∙ z);
        equations = subst (Passing (plan_flow plan)) used-table p.equations;
      }

pub part_same : (plan : Plan) (lent : Lent) → table_short plan lent ≡ false → SameUsed plan (used_part plan lent) lent
part_same plan lent room =
    let long = long-enough plan lent room in
    record {
      must = take-take (ages_used plan) (ages_used plan) lent.must (omega arith);
      may = take-take (ages_used plan) (ages_used plan) lent.may (omega arith);
      marks = take-take (marks_used plan) (marks_used plan) lent.marks (omega arith);
      one_long = not_short plan (used_part plan lent) (reaches (ages_used plan) lent.must long.0) (reaches (ages_used plan) lent.may long.1.0) (reaches (marks_used plan) lent.marks long.1.1);
      other_long = room;
    }
  where
    reaches : (n : ℕ) (l : List ℕ) → n ≤ length l → n ≤ length (take n l)
    reaches n l h = omega (arith, length-take-le n l h)
