-- The flow of a sound plan's ages keeps the laws of flows, and its states have a height.
use mathlib.Core.Path.{◌≡◌}
use Prim.Native.Nat.{ℕ, ◌*◌}
use native.Mathlib.Omega.{arith}
use Rattle.cache.specs.Ages.{Within}
use Rattle.cache.proofs.Rows.{same-ages}
use Rattle.cache.proofs.Order.{tighter-refl, tighter-trans, tighter-both}
use Rattle.cache.proofs.Meeting.{meet_within, meet_left, meet_right, meet_least, start-within}
use Rattle.cache.specs.Laws.{height}
use Rattle.cache.proofs.Heights.{height-most, height-grows}
use Rattle.flow.specs.Laws.{Laws, Height}
use Rattle.ages.specs.Plan.{Plan, columns_of, plan_flow, Sound}
use Rattle.ages.specs.Limits.{LimitsWithin}
use Rattle.ages.proofs.Stepping.{step-within, step-monotone}

module _ (plan : Plan) (sound : Sound plan) where
  unfoldable pub ages_laws : Laws (plan_flow plan)
  ages_laws =
      record {
        Real = λ n. Within (columns_of plan);
        entry_inside = sound.entry_inside;
        arrows-in = sound.arrows-in;
        real_ok = λ n a r. r;
        real_start = start-within (columns_of plan) plan.empty;
        real_step = λ n t a h i r. step-within plan sound n h a r;
        real_meet = λ n a b r s. meet_within (columns_of plan) a b r s;
        below_refl = tighter-refl (columns_of plan);
        below_trans = tighter-trans (columns_of plan);
        below_both = tighter-both (columns_of plan);
        meet_left = λ n a b r s. meet_left (columns_of plan) a b;
        meet_right = λ n a b r s. meet_right (columns_of plan) a b;
        meet_least = λ n a b c r s o t u. meet_least (columns_of plan) a b c t u;
        monotone = λ n a b h r o t. step-monotone plan sound n h a b o t;
        same_yes = same-ages;
      }

module _ (plan : Plan) (sound : Sound plan) (most : ℕ) (limits : LimitsWithin plan most) where
  unfoldable pub ages_height : Height (plan_flow plan) (ages_laws plan sound)
  unfolding ages_laws
  ages_height =
      record {
        height = height (columns_of plan);
        bound = plan.blocks * (2 * most);
        bounded = λ n a r. height-most (columns_of plan) most limits a r;
        grows = λ n a b r s e. height-grows (columns_of plan) a b r s e;
      }

  pub ages-bound : ages_height.bound ≡ plan.blocks * (2 * most)
  unfolding ages_height
  ages-bound = omega arith
