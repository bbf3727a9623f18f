-- Rule 10.4 charges for each block once at most.
use Prim.Native.Nat.{◌-◌, ◌*◌, ◌≤◌}
use mathlib.Core.List.{List}
use native.Mathlib.Nat.{mul-le-mul_left}
use Rattle.lists.proofs.Sums.{flags-most}
use Rattle.cache.specs.Ages.{Ages}
use Rattle.flow.specs.Flow.{Cell}
use Rattle.ages.specs.Plan.{Plan}
use Rattle.costs.specs.Costs.{Figures, charged_for, kept_charge}

pub charge-most : (plan : Plan) (table : List (Cell Ages)) (figures : Figures) → kept_charge plan table figures ≤ (figures.costs.miss - figures.costs.hit) * plan.blocks
unfolding kept_charge
charge-most plan table figures =
    mul-le-mul_left (figures.costs.miss - figures.costs.hit) (flags-most plan.blocks (charged_for plan table figures.ceilings))
