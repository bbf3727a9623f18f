-- One node of a sound plan: its step keeps ages within their limits and the order of states.
use Prim.Native.Nat.{ℕ, ◌<◌}
use Rattle.lists.specs.Lists.{Among}
use Rattle.cache.specs.Ages.{Ages, Within, Tighter}
use Rattle.cache.proofs.Touching.{touch-within, touch-monotone}
use Rattle.flow.proofs.Turns.{in_turn-keeps}
use Rattle.ages.specs.Plan.{ColumnTouch, Plan, columns_of, touches_in, after_touch, plan_flow, Sound}

module _ (plan : Plan) (sound : Sound plan) (n : ℕ) (inside : n < plan.nodes) where
  after_touch-within : (touch : ColumnTouch) → Among touch (touches_in plan n) → (a : Ages) → Within (columns_of plan) a → Within (columns_of plan) (after_touch plan touch a)
  after_touch-within touch among = touch-within (columns_of plan) touch.column (sound.columns_in n inside touch among) sound.one_limit

  pub step-within : (a : Ages) → Within (columns_of plan) a → Within (columns_of plan) ((plan_flow plan).step n a)
  step-within a w =
      in_turn-keeps (after_touch plan) (after_touch plan) (λ b c. Within (columns_of plan) b) (touches_in plan n) (λ touch i b c. after_touch-within touch i b) a a w

  pub step-monotone : (a b : Ages) → Within (columns_of plan) b → Tighter (columns_of plan) a b → Tighter (columns_of plan) ((plan_flow plan).step n a) ((plan_flow plan).step n b)
  step-monotone a b w t =
      (in_turn-keeps (after_touch plan) (after_touch plan) (λ c d. Within (columns_of plan) d × Tighter (columns_of plan) c d) (touches_in plan n)
      (λ touch i c d r. (
        after_touch-within touch i d r.0,
        touch-monotone (columns_of plan) touch.column (sound.columns_in n inside touch i) c d r.0 r.1,
      )) a b (w, t)).1
