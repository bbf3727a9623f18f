-- The passes of one block settle, within 65N + 1, at the table that `kept_table` names, which is the tightest and marks what walks reach.
use mathlib.Core.List.{List}
use mathlib.Core.Path.{◌≡◌, sym, ◌∙◌, ap}
use Prim.Native.Nat.{ℕ, suc, ◌*◌, ◌≤◌, ◌<◌}
use native.Mathlib.Omega.{arith}
use Rattle.chart.specs.Geometry.{most_blocks}
use Rattle.flow.specs.Flow.{Cell, cell_at, Table}
use Rattle.flow.specs.Passing.{Marked, Tightest}
use Rattle.flow.specs.Pass.{settled, settle}
use Rattle.flow.specs.Walk.{Reached}
use Rattle.flow.proofs.Settling.{settle-tight}
use Rattle.flow.proofs.Ending.{settle-ends, settle-count}
use Rattle.flow.proofs.Reaching.{settled-reach}
use Rattle.ages.specs.Plan.{Plan, arrows_in, Sound}
use Rattle.kept.specs.Since.{Since}
use Rattle.kept.specs.Kept.{kept_flow, kept_passes, settled_at, kept_table}
use Rattle.kept.proofs.Lawful.{kept_laws, kept_height, kept-bound}

module _ (plan : Plan) (sound : Sound plan) (few : plan.blocks ≤ most_blocks) (block : ℕ) (inside : block < plan.blocks) where
  -- Some number of passes, and the table then.
  kept-ends : (k : ℕ) × (U : Table (kept_flow plan block)) × (settle (kept_flow plan block) (kept_passes plan) ≡ settled k U)
  kept-ends =
      let enough : plan.nodes * suc (kept_height plan sound few block inside).bound < kept_passes plan = rw (kept-bound plan sound few block inside) (omega arith) in
      settle-ends (kept_flow plan block) (kept_laws plan sound block) (kept_height plan sound few block inside) (kept_passes plan) enough

  -- Rule 16.7: they settle, at this table.
  pub kept_settles : (k : ℕ) × (settle (kept_flow plan block) (kept_passes plan) ≡ settled k (kept_table plan block))
  unfolding kept_table
  kept_settles =
      let ends = kept-ends in
      let outcome = ends.2 in
      (ends.0, outcome ∙ ap (λ (T : List (Cell Since)). settled ends.0 T) (sym (ap settled_at outcome)))

  -- Rule 16.7: in at most 65N + 1 passes, whatever they are allowed.
  pub kept-count : (allowance k : ℕ) (U : Table (kept_flow plan block)) → settle (kept_flow plan block) allowance ≡ settled k U → k ≤ kept_passes plan
  kept-count allowance k U done =
      rw (kept-bound plan sound few block inside) at (settle-count (kept_flow plan block) (kept_laws plan sound block) (kept_height plan sound few block inside) allowance k U done)

  -- Rule 16.6.
  pub kept-tightest : Tightest (kept_flow plan block) (kept_table plan block)
  kept-tightest = settle-tight (kept_flow plan block) (kept_laws plan sound block) (kept_passes plan) kept_settles.0 (kept_table plan block) kept_settles.1

  -- It marks a node exactly if a walk reaches it.
  pub kept-reached : (n : ℕ) → (Marked (cell_at (kept_table plan block) n) → Reached (arrows_in plan) plan.entry n) × (Reached (arrows_in plan) plan.entry n → Marked (cell_at (kept_table plan block) n))
  kept-reached = settled-reach (kept_flow plan block) (kept_laws plan sound block) (kept_passes plan) kept_settles.0 (kept_table plan block) kept_settles.1
