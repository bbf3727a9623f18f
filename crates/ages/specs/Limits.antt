-- How high the limits of a plan are, and how many passes are then enough.
-- Nothing here is a rule of the tool: laws and contracts of inner functions speak of it.
use Rattle.std.specs.Prelude.{ℕ, suc, ◌+◌, ◌*◌, ◌≤◌, ◌<◌, get_or}
use Rattle.ages.specs.Plan.{Plan}

-- No limit of a plan's columns is above `most`.
abbrev pub LimitsWithin : Plan → ℕ → Type 0
LimitsWithin plan most =
    (column : ℕ) → column < plan.blocks → (get_or plan.must_limits column 0 ≤ most) × (get_or plan.may_limits column 0 ≤ most)

-- The passes that are enough where no limit is above `most`.
abbrev pub enough_for : Plan → ℕ → ℕ
enough_for plan most = plan.nodes * suc (plan.blocks * (2 * most)) + 1
