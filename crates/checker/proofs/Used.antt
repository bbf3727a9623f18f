-- The checker's tests tell the same of lent tables whose used parts are the same.
use mathlib.Core.Bool.{true}
use mathlib.Core.Path.{◌≡◌}
use Rattle.lists.proofs.Choice.{same_tests}
use Rattle.ages.specs.Plan.{Plan, Sound}
use Rattle.tables.specs.Lent.{Lent, SameUsed}
use Rattle.tables.proofs.Used.{same-used-back, used-passing}
use Rattle.checker.specs.Checker.{passing}
use Rattle.checker.proofs.Deciding.{passing-yes, yes-passing}

module _ (plan : Plan) (sound : Sound plan) where
  passing-only : (one other : Lent) → SameUsed plan one other → passing plan one ≡ true → passing plan other ≡ true
  passing-only one other same e = yes-passing plan other (used-passing plan one other same (passing-yes plan one sound same.one_long e))

  pub passing-used : (one other : Lent) → SameUsed plan one other → passing plan one ≡ passing plan other
  passing-used one other same =
      same_tests (passing plan one) (passing plan other) (passing-only one other same) (passing-only other one (same-used-back plan one other same))
