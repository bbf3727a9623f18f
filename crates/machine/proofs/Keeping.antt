-- What is called kept: of the touches of one block that are called so, at most one on a whole walk is a miss.
use Prim.Native.Nat.{ℕ, ◌≤◌, ◌<◌}
use mathlib.Core.Bool.{false}
use mathlib.Core.List.{List}
use mathlib.Core.Logic.{⊎_elim}
use mathlib.Core.Path.{◌≡◌, ap, ◌∙◌}
use native.Mathlib.Omega.{arith}
use Rattle.lists.proofs.Orders.{below_or}
use Rattle.chart.specs.Chart.{Chart, accepted, read_chart, arrows, touches, block_count}
use Rattle.chart.proofs.Accepted.{accepted-entry, accepted-few}
use Rattle.cache.specs.Ages.{Ages}
use Rattle.flow.specs.Flow.{Cell, blank, holds, cell_at, Flow}
use Rattle.flow.specs.Walk.{Walk, in_turn, AtNodes, count_along}
use Rattle.flow.specs.Truths.{Truthful, SaysOf, SaysAt}
use Rattle.flow.proofs.Walking.{walk-true, walk_begins, at-nodes}
use Rattle.ages.specs.Plan.{ColumnTouch, columns_of}
use Rattle.ages.specs.Charted.{column_of, block_at, column_touch, plan_of}
use Rattle.ages.proofs.Charting.{turns-mapped, touches-planned, chart-sound, onward-planned}
use Rattle.kept.specs.Since.{Since}
use Rattle.kept.specs.Kept.{after_touch_of, kept_flow, kept_table, since_of}
use Rattle.kept.proofs.Staying.{since-start, since-weaker}
use Rattle.kept.proofs.Settled.{kept-tightest}
use Rattle.classes.specs.Class.{Whole, whole_at}
use Rattle.machine.specs.Machine.{ways_of, key_of, plain_machine, Contents}
use Rattle.machine.specs.Keeping.{touch_whole, kept_miss}
use Rattle.machine.specs.Noted.{left, note_touch, noted_machine, NotedContents, touch_held, HeldTrue}
use Rattle.machine.proofs.Truth.{start-true}
use Rattle.machine.proofs.Counting.{SpendsAt, count-at-left, count_left}
use Rattle.machine.proofs.Uncounted.{outside-none}
use Rattle.machine.proofs.Noting.{held-touch, touch-spends}

module _ (bytes : List ℕ) (chart : Chart) (read : read_chart bytes ≡ accepted chart) where
  -- ---- what the table of a column says is true along every walk

  module _ (column : ℕ) (inside : column < block_count chart) where
    abbrev flow : Flow
    flow = kept_flow (plan_of chart) column

    abbrev table : List (Cell Since)
    table = kept_table (plan_of chart) column

    held-truthful : Truthful flow (noted_machine chart column) (touches chart) (touch_held chart column) (HeldTrue chart column)
    held-truthful =
        record {
          arrows-in = (chart-sound bytes chart read).arrows-in;
          step_is = λ n h since.
              ap (λ (ts : List ColumnTouch). in_turn (after_touch_of (plan_of chart) column) ts since) (touches-planned chart n h)
              ∙ turns-mapped (column_touch chart) (after_touch_of (plan_of chart) column) (touches chart n) since;
          one_touch = λ n h t i. held-touch bytes chart read n h t i column inside;
          below_true = λ a b x. since-weaker (columns_of (plan_of chart)) (ways_of chart) (key_of chart) (block_at chart) column a b x.1 x.0;
        }

    abbrev HeldAt : ℕ → NotedContents chart column → Type 0
    HeldAt = SaysAt flow (noted_machine chart column) (HeldTrue chart column) table

    start-held : (contents : Contents chart) → (plain_machine chart).Begins contents → HeldTrue chart column flow.start (contents, false)
    start-held contents begins =
        since-start (columns_of (plan_of chart)) (ways_of chart) (key_of chart) (block_at chart) column flow.start contents
        (start-true bytes chart read contents begins).formed

    held-along : (contents : Contents chart) → (plain_machine chart).Begins contents → (ts : List ℕ) → Walk (arrows chart) chart.header.entry ts
        → AtNodes (noted_machine chart column) HeldAt (touches chart) chart.header.entry ts (contents, false)
    held-along contents begins ts walk =
        let entry_inside = accepted-entry bytes chart read in
        let passing = (kept-tightest (plan_of chart) (chart-sound bytes chart read) (accepted-few bytes chart read) column inside).passing in
        walk-true flow (noted_machine chart column) (touches chart) (touch_held chart column) (HeldTrue chart column) held-truthful table passing
        chart.header.entry ts (contents, false)
        (walk_begins flow (noted_machine chart column) (touches chart) (touch_held chart column) (HeldTrue chart column) held-truthful table passing
        entry_inside (contents, false) (start-held contents begins))
        (onward-planned bytes chart read chart.header.entry entry_inside ts walk)

    -- What that table has at a marked node is what a class goes by there.
    held-here : (cell : Cell Since) (x : NotedContents chart column)
        → SaysOf flow (noted_machine chart column) (HeldTrue chart column) cell x → HeldTrue chart column (since_of (block_count chart) cell) x
    held-here blank x says = absurd says
    held-here (holds since) x says = says

  -- ---- what is counted along it

  module _ (ages : ℕ → Ages) (contents : Contents chart) (begins : (plain_machine chart).Begins contents)
      (ts : List ℕ) (walk : Walk (arrows chart) chart.header.entry ts) (block : ℕ) where
    abbrev states : ℕ → Whole
    states n = whole_at (plan_of chart) n (ages n)

    abbrev counted : ℕ
    counted = count_along (plain_machine chart) (touch_whole chart) (kept_miss chart block) (touches chart) states chart.header.entry ts contents

    abbrev column : ℕ
    column = column_of chart block

    -- What is counted at a node is no more than the note takes.
    abbrev SpendsHere : ℕ → NotedContents chart column → Type 0
    SpendsHere = SpendsAt (plain_machine chart) (touch_whole chart) (kept_miss chart block) (note_touch chart column) left (touches chart) states

    module _ (inside : column < block_count chart) where
      spends-at : (n : ℕ) (x : NotedContents chart column) → HeldAt column inside n x → SpendsHere n x
      spends-at n x says =
          count-at-left (plain_machine chart) (touch_whole chart) (kept_miss chart block) (note_touch chart column) left
          (λ whole y. HeldTrue chart column (whole.since column) y) (touches chart n)
          (λ t i whole. held-touch bytes chart read n says.inside t i column inside (whole.since column))
          (λ t i. touch-spends bytes chart read n says.inside t i block inside)
          (states n) x (held-here column inside (cell_at (kept_table (plan_of chart) column) n) x says.cell-says)

      once-inside : counted ≤ 1
      once-inside =
          count_left (plain_machine chart) (touch_whole chart) (kept_miss chart block) (note_touch chart column) left (touches chart) states
          chart.header.entry ts (contents, false)
          (at-nodes (noted_machine chart column) (touches chart) (HeldAt column inside) SpendsHere spends-at
          chart.header.entry ts (contents, false) (held-along column inside contents begins ts walk))

    -- Whatever the ages are, and whatever the walk begins with.
    pub kept_once : count_along (plain_machine chart) (touch_whole chart) (kept_miss chart block) (touches chart) (λ n. whole_at (plan_of chart) n (ages n))
        chart.header.entry ts contents ≤ 1
    kept_once =
        ⊎_elim once-inside
        (λ (outside : block_count chart ≤ column). omega (arith, outside-none bytes chart read block outside states ts contents walk))
        (below_or column (block_count chart))
