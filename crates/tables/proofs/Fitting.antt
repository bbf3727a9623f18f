-- Passes keep tables of ages fitted: a plan's start, steps and meetings have an age for each block.
use Prim.Native.Nat.{ℕ}
use mathlib.Core.List.{List}
use lib.ListN.{replicate}
use Rattle.lists.proofs.Listed.{length-list_of}
use Rattle.cache.specs.Ages.{Ages, touch_ages, meet_ages, start_ages}
use Rattle.flow.specs.Flow.{Cell, blank, holds}
use Rattle.flow.specs.Pass.{Run, put, take_node, take_nodes, pass, before, after_passes}
use Rattle.flow.proofs.Turns.{in_turn-keeps}
use Rattle.layout.specs.Kinds.{FlowFits}
use Rattle.layout.proofs.Keeping.{blanks-fitted, put-fitted, take_node-fitted, take_nodes-fitted, pass-fitted, before-fitted, after_passes-fitted}
use Rattle.ages.specs.Plan.{Plan, columns_of, touches_in, after_touch, plan_flow}
use Rattle.tables.specs.Fitting.{AgesFit, CellAgesFit, TableFits}

module _ (plan : Plan) where
  -- ---- states

  touch-fits : (m : ℕ) (a : Ages) → AgesFit plan (touch_ages (columns_of plan) m a)
  unfolding touch_ages
  touch-fits m a = (length-list_of _ _, length-list_of _ _)

  start_fits : AgesFit plan (plan_flow plan).start
  unfolding start_ages
  start_fits = (length-list_of _ _, length-list_of _ _)

  meet_fits : (a b : Ages) → AgesFit plan (meet_ages (columns_of plan) a b)
  unfolding meet_ages
  meet_fits a b = (length-list_of _ _, length-list_of _ _)

  pub step_fits : (n : ℕ) (a : Ages) → CellAgesFit plan (holds a) → CellAgesFit plan (holds ((plan_flow plan).step n a))
  step_fits n a h =
      in_turn-keeps (after_touch plan) (after_touch plan) (λ b c. AgesFit plan b) (touches_in plan n) (λ touch i b c k. touch-fits touch.column b) a a h

  pub ages-fit : FlowFits (plan_flow plan) (AgesFit plan)
  ages-fit = record { start_fits = start_fits; step_fits = step_fits; meet_fits = λ a b f h. meet_fits a b }

  -- ---- tables

  pub put-fits : (a : Ages) (t : ℕ) (run : Run Ages) → CellAgesFit plan (holds a) → TableFits plan run.table → TableFits plan (put (plan_flow plan) a t run).table
  put-fits a t run h s = put-fitted ages-fit a t run h s

  pub take_node-fits : (n : ℕ) (run : Run Ages) → TableFits plan run.table → TableFits plan (take_node (plan_flow plan) n run).table
  take_node-fits n run s = take_node-fitted ages-fit n run s

  pub take_nodes-fits : (n : ℕ) (run : Run Ages) → TableFits plan run.table → TableFits plan (take_nodes (plan_flow plan) n run).table
  take_nodes-fits n run s = take_nodes-fitted ages-fit n run s

  pub pass_fits : (T : List (Cell Ages)) → TableFits plan T → TableFits plan (pass (plan_flow plan) T).table
  pass_fits T s = pass-fitted ages-fit T s

  pub blanks-fit : TableFits plan (replicate plan.nodes blank)
  blanks-fit = blanks-fitted (AgesFit plan) plan.nodes

  pub before-fits : TableFits plan (before (plan_flow plan))
  before-fits = before-fitted ages-fit

  pub after_passes-fits : (k : ℕ) → TableFits plan (after_passes (plan_flow plan) k)
  after_passes-fits k = after_passes-fitted ages-fit k
