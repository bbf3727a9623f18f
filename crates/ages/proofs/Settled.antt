-- Passes over a sound plan: within how many they settle, and what is known of the table that they settle at.
use mathlib.Core.Bool.{true, false}
use mathlib.Core.Path.{◌≡◌}
use Prim.Native.Nat.{ℕ, suc, ◌+◌, ◌*◌, ◌≤◌, ◌<◌}
use native.Mathlib.Omega.{arith}
use Rattle.flow.specs.Flow.{cell_at, Table}
use Rattle.flow.specs.Passing.{Marked, Tightest}
use Rattle.flow.specs.Pass.{settled, pass, after_passes, settle}
use Rattle.flow.specs.Walk.{Reached}
use Rattle.flow.proofs.Settling.{settle-tight}
use Rattle.flow.proofs.Ending.{settle-ends, settle-count, settle-after}
use Rattle.flow.proofs.Outcomes.{settle-made}
use Rattle.flow.proofs.Reaching.{settled-reach}
use Rattle.ages.specs.Plan.{Plan, arrows_in, plan_flow, Sound}
use Rattle.ages.specs.Limits.{LimitsWithin, enough_for}
use Rattle.ages.proofs.Ageing.{ages_laws, ages_height, ages-bound}

module _ (plan : Plan) (sound : Sound plan) (most : ℕ) (limits : LimitsWithin plan most) where
  pub settles-within : (allowance : ℕ) → enough_for plan most ≤ allowance → (k : ℕ) × (U : Table (plan_flow plan)) × (settle (plan_flow plan) allowance ≡ settled k U)
  settles-within allowance h =
      let enough : plan.nodes * suc (ages_height plan sound most limits).bound + 1 ≤ allowance = rw (ages-bound plan sound most limits) h in
      settle-ends (plan_flow plan) (ages_laws plan sound) (ages_height plan sound most limits) allowance (omega arith)

  pub settled-passes : (allowance k : ℕ) (U : Table (plan_flow plan)) → settle (plan_flow plan) allowance ≡ settled k U → k ≤ enough_for plan most
  settled-passes allowance k U done =
      rw (ages-bound plan sound most limits) at (settle-count (plan_flow plan) (ages_laws plan sound) (ages_height plan sound most limits) allowance k U done)

module _ (plan : Plan) (sound : Sound plan) (allowance k : ℕ) (U : Table (plan_flow plan)) (done : settle (plan_flow plan) allowance ≡ settled k U) where
  pub settled-tightest : Tightest (plan_flow plan) U
  settled-tightest = settle-tight (plan_flow plan) (ages_laws plan sound) allowance k U done

  -- Rule 9.5: a pass was made at least, the last one changed nothing, and each before it something.
  pub settled-made : 0 < k
  settled-made = settle-made (plan_flow plan) allowance k U done

  pub settled-last : (j : ℕ) → suc j ≡ k → (pass (plan_flow plan) (after_passes (plan_flow plan) j)).changed ≡ false
  settled-last = (settle-after (plan_flow plan) allowance k U done).last

  pub settled-earlier : (j : ℕ) → suc j < k → (pass (plan_flow plan) (after_passes (plan_flow plan) j)).changed ≡ true
  settled-earlier = (settle-after (plan_flow plan) allowance k U done).earlier

  pub settled-table : U ≡ after_passes (plan_flow plan) k
  settled-table = (settle-after (plan_flow plan) allowance k U done).table

  -- Rule 7.9.
  pub settled-marked : (n : ℕ) → (Marked (cell_at U n) → Reached (arrows_in plan) plan.entry n) × (Reached (arrows_in plan) plan.entry n → Marked (cell_at U n))
  settled-marked = settled-reach (plan_flow plan) (ages_laws plan sound) allowance k U done
