-- One touch of the plain machine: ages that bound its contents still do after it, and a touch that they call a hit or a miss is found so.
-- And the start: its ages bound whatever a walk may begin with.
use Prim.Native.Nat.{ℕ, ◌<◌, zero-le}
use mathlib.Core.Bool.{true, false}
use mathlib.Core.List.{List, []}
use mathlib.Core.Path.{◌≡◌, subst}
use native.Mathlib.Omega.{arith}
use Rattle.lists.specs.Lists.{Among}
use Rattle.chart.specs.declared.headers.Start.{Start}
use Rattle.chart.specs.declared.headers.Start.TheVariants.{Unknown, Empty}
use Rattle.chart.specs.Record.{Touch}
use Rattle.chart.specs.Chart.{Chart, accepted, read_chart, touches}
use Rattle.chart.proofs.Accepted.{accepted-apart}
use Rattle.cache.specs.Ages.{Ages, start_ages}
use Rattle.cache.specs.Plain.{Formed}
use Rattle.cache.specs.Laws.{Named}
use Rattle.cache.proofs.Bounding.{bounds-weaker, start-bounds, touch-bounds, young-hits, old-misses}
use Rattle.flow.specs.Truths.{Truthful}
use Rattle.ages.specs.Plan.{columns_of, plan_flow}
use Rattle.ages.specs.Charted.{column_of, block_at, column_touch, is_empty, plan_of, touched_by}
use Rattle.ages.proofs.Charting.{step-touches, must-limit-planned, may-limit-planned, keys-set, sets-key, column-inside, column-holds, chart-sound}
use Rattle.classes.specs.Class.{Whole, class_of, CalledRight}
use Rattle.classes.proofs.Calling.{hit-young, miss-old}
use Rattle.machine.specs.Machine.{ways_of, key_of, plain_machine, Contents, BeginsWith, AgesTrue}

module _ (bytes : List ℕ) (chart : Chart) (read : read_chart bytes ≡ accepted chart) where
  -- The plan's columns name the chart's blocks.
  pub named : Named (columns_of (plan_of chart)) (ways_of chart) (key_of chart) (block_at chart)
  named =
      record {
        one_set = keys-set chart;
        one_key = sets-key chart;
        must-limits = must-limit-planned chart;
        may-limits = may-limit-planned chart;
        apart = accepted-apart bytes chart read;
      }

  -- ---- one touch

  module _ (n : ℕ) (inside : n < chart.header.nodes) (t : Touch) (among : Among t (touches chart n)) where
    abbrev column : ℕ
    column = column_of chart t.block

    in-columns : column < (plan_of chart).blocks
    in-columns = column-inside bytes chart read n inside t among

    holds-block : block_at chart column ≡ t.block
    holds-block = column-holds bytes chart read n inside t among

    pub touch-true : (a : Ages) (contents : Contents chart) → AgesTrue chart a contents → AgesTrue chart (touched_by chart t a) ((plain_machine chart).act t contents)
    touch-true a contents bounds =
        subst (λ (b : ℕ). AgesTrue chart (touched_by chart t a) ((plain_machine chart).act (record { block = b; write = t.write }) contents)) holds-block
        (touch-bounds (columns_of (plan_of chart)) (ways_of chart) (key_of chart) (block_at chart) named column in-columns a contents bounds)

    -- Whatever is held of the blocks besides.
    pub touch-called : (whole : Whole) (contents : Contents chart) → AgesTrue chart whole.ages contents
        → CalledRight (class_of (plan_of chart) (column_touch chart t) whole) ((plain_machine chart).finds t contents)
    touch-called whole contents bounds =
        record {
          hit_hits = λ e. subst (λ (b : ℕ). (plain_machine chart).finds (record { block = b; write = t.write }) contents ≡ true) holds-block
              (young-hits (columns_of (plan_of chart)) (ways_of chart) (key_of chart) (block_at chart) named column in-columns whole.ages contents bounds (hit-young _ _ _ _ e));
          miss_misses = λ e. subst (λ (b : ℕ). (plain_machine chart).finds (record { block = b; write = t.write }) contents ≡ false) holds-block
              (old-misses (columns_of (plan_of chart)) (ways_of chart) (key_of chart) (block_at chart) named column in-columns whole.ages contents bounds (miss-old _ _ _ _ e));
        }

  -- ---- what the lift along a walk asks, and the start

  pub plan-truthful : Truthful (plan_flow (plan_of chart)) (plain_machine chart) (touches chart) (touched_by chart) (AgesTrue chart)
  plan-truthful =
      record {
        arrows-in = (chart-sound bytes chart read).arrows-in;
        step_is = step-touches chart;
        one_touch = touch-true;
        below_true = bounds-weaker (columns_of (plan_of chart)) (ways_of chart) (key_of chart) (block_at chart);
      }

  pub start-true : (contents : Contents chart) → (plain_machine chart).Begins contents → AgesTrue chart (plan_flow (plan_of chart)).start contents
  start-true cache begins = go chart.header.start begins
    where
      bare-formed : ((set : ℕ) → cache set ≡ []) → Formed (ways_of chart) (key_of chart) cache
      bare-formed bare = record { short = λ set. rw (bare set) zero-le; different = λ set. rw (bare set) tt; own = λ set. rw (bare set) tt }

      go : (start : Start) → BeginsWith chart start cache → AgesTrue chart (start_ages (columns_of (plan_of chart)) (is_empty start)) cache
      go Unknown formed =
          start-bounds (columns_of (plan_of chart)) (ways_of chart) (key_of chart) (block_at chart) named false cache formed (λ e. let z : ◌≡◌ {A = ℕ} 0 1 = cc in absurd (omega arith))
      go Empty bare =
          start-bounds (columns_of (plan_of chart)) (ways_of chart) (key_of chart) (block_at chart) named true cache (bare-formed bare) (λ e. bare)
