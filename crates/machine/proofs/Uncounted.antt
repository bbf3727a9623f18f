-- Touches that are not counted as kept and missed: those of another block, those that are not called kept, and so all of a block that the chart has not.
use Prim.Native.Nat.{ℕ, ◌≤◌, ◌<◌}
use mathlib.Core.Bool.{Bool, true, false, not, ◌&&◌}
use mathlib.Core.List.{List, [], ◌∷◌}
use mathlib.Core.Path.{◌≡◌, refl, subst}
use native.Mathlib.Omega.{arith}
use borrow.Author.Tests.{eqb-true}
use lib.Dec.{eqb}
use Rattle.lists.specs.Lists.{Among}
use Rattle.chart.specs.Record.{Touch}
use Rattle.chart.specs.Chart.{Chart, accepted, read_chart, arrows, touches, block_count}
use Rattle.chart.proofs.Accepted.{accepted-entry}
use Rattle.flow.specs.Walk.{Onward, Walk, in_turn, AtTouches, count_at, AtNodes, count_along}
use Rattle.flow.proofs.Walking.{at-touches, at-nodes}
use Rattle.ages.specs.Charted.{column_of}
use Rattle.ages.proofs.Charting.{arrow-inside, column-inside}
use Rattle.classes.specs.Class.{Whole}
use Rattle.machine.specs.Machine.{plain_machine, Contents}
use Rattle.machine.specs.Keeping.{touch_whole, called_kept, kept_miss}
use Rattle.machine.proofs.Counting.{count-at-none, count_none}

module _ (chart : Chart) (block : ℕ) where
  -- One touch.
  pub not-counted : (t : Touch) (whole : Whole) (contents : Contents chart)
      → (t.block ≡ block → called_kept chart t whole ≡ false) → kept_miss chart block t whole contents ≡ false
  not-counted t whole contents other = go (eqb t.block block) refl
    where
      go : (own : Bool) → eqb t.block block ≡ own → (own && (called_kept chart t whole && not ((plain_machine chart).finds t contents))) ≡ false
      go true e = rw (other (eqb-true t.block block e)) refl
      go false e = refl

  -- The touches of one node: none of the block is called kept.
  pub none-counted : (ts : List Touch) (whole : Whole) (contents : Contents chart)
      → AtTouches (touch_whole chart) (plain_machine chart).act (λ t w x. t.block ≡ block → called_kept chart t w ≡ false) ts whole contents
      → count_at (touch_whole chart) (plain_machine chart).act (kept_miss chart block) ts whole contents ≡ 0
  none-counted ts whole contents none =
      count-at-none (touch_whole chart) (plain_machine chart).act (kept_miss chart block) ts whole contents (each ts whole contents none)
    where
      each : (ts : List Touch) (whole : Whole) (contents : Contents chart)
          → AtTouches (touch_whole chart) (plain_machine chart).act (λ t w x. t.block ≡ block → called_kept chart t w ≡ false) ts whole contents
          → AtTouches (touch_whole chart) (plain_machine chart).act (λ t w x. kept_miss chart block t w x ≡ false) ts whole contents
      each [] whole contents none = tt
      each (t ∷ ts) whole contents none =
          (not-counted t whole contents none.0, each ts (touch_whole chart t whole) ((plain_machine chart).act t contents) none.1)

module _ (bytes : List ℕ) (chart : Chart) (read : read_chart bytes ≡ accepted chart) where
  -- A walk stays among the chart's nodes.
  pub nodes-inside : (n : ℕ) → n < chart.header.nodes → (ts : List ℕ) (contents : Contents chart) → Onward (arrows chart) n ts
      → AtNodes (plain_machine chart) (λ k x. k < chart.header.nodes) (touches chart) n ts contents
  nodes-inside n h [] contents on = h
  nodes-inside n h (t ∷ ts) contents on =
      (h, nodes-inside t (arrow-inside bytes chart read n t h on.0) ts (in_turn (plain_machine chart).act (touches chart n) contents) on.1)

  -- A block that the chart has not is never touched.
  module _ (block : ℕ) (outside : block_count chart ≤ column_of chart block) where
    not-touched : (n : ℕ) → n < chart.header.nodes → (t : Touch) → Among t (touches chart n) → t.block ≡ block → ⊥
    not-touched n h t among e =
        let inside = subst (λ (b : ℕ). column_of chart b < block_count chart) e (column-inside bytes chart read n h t among) in
        omega arith

    pub outside-none : (states : ℕ → Whole) (ts : List ℕ) (contents : Contents chart) → Walk (arrows chart) chart.header.entry ts
        → count_along (plain_machine chart) (touch_whole chart) (kept_miss chart block) (touches chart) states chart.header.entry ts contents ≡ 0
    outside-none states ts contents walk =
        count_none (plain_machine chart) (touch_whole chart) (kept_miss chart block) (touches chart) states chart.header.entry ts contents
        (at-nodes (plain_machine chart) (touches chart) (λ k x. k < chart.header.nodes)
        (λ k x. count_at (touch_whole chart) (plain_machine chart).act (kept_miss chart block) (touches chart k) (states k) x ≡ 0) here
        chart.header.entry ts contents
        (nodes-inside chart.header.entry (accepted-entry bytes chart read) ts contents walk))
      where
        here : (k : ℕ) (x : Contents chart) → k < chart.header.nodes
            → count_at (touch_whole chart) (plain_machine chart).act (kept_miss chart block) (touches chart k) (states k) x ≡ 0
        here k x h =
            none-counted chart block (touches chart k) (states k) x
            (at-touches (touch_whole chart) (plain_machine chart).act (λ w y. Unit {0}) (λ t w y. t.block ≡ block → called_kept chart t w ≡ false)
            (touches chart k) (λ t i w y u. tt) (λ t i w y u e. absurd (not-touched k h t i e)) (states k) x tt)
