-- One touch of the plain machine, with a note of whether this walk has touched a block: what is held of the block stays true, and a touch of it that is
-- called kept misses only before it is noted.
use Prim.Native.Nat.{ℕ, ◌+◌, ◌≤◌, ◌<◌}
use mathlib.Core.Bool.{Bool, true, false, cond, not, ◌&&◌, ◌||◌}
use mathlib.Core.List.{List}
use mathlib.Core.Path.{◌≡◌, refl, sym, ap, subst, ◌∙◌}
use native.Mathlib.Omega.{arith}
use borrow.Author.Tests.{eqb-true, eq-eqb}
use lib.Dec.{eqb}
use Rattle.lists.specs.Lists.{Among}
use Rattle.chart.specs.Record.{Touch}
use Rattle.chart.specs.Chart.{Chart, accepted, read_chart, touches, block_count}
use Rattle.cache.specs.Plain.{hits, touch}
use Rattle.ages.specs.Plan.{columns_of}
use Rattle.ages.specs.Charted.{column_of, block_at, column_touch, plan_of}
use Rattle.ages.proofs.Charting.{column-inside, column-holds}
use Rattle.kept.specs.Since.{Since}
use Rattle.kept.specs.Kept.{stays_by}
use Rattle.kept.proofs.Staying.{since-touch, stays-found}
use Rattle.classes.specs.Class.{Whole, class_of, kept}
use Rattle.classes.proofs.Calling.{kept-few}
use Rattle.machine.specs.Machine.{ways_of, key_of, plain_machine, Contents}
use Rattle.machine.specs.Keeping.{touch_whole, called_kept, kept_miss}
use Rattle.machine.specs.Noted.{left, note_touch, noted_machine, NotedContents, touch_held, HeldTrue}
use Rattle.machine.proofs.Truth.{named}
use Rattle.machine.proofs.Counting.{Spends}

-- A note is never taken back.
no-more : (now noted : Bool) → 0 + left (now || noted) ≤ left noted
no-more true noted = omega arith
no-more false noted = omega arith

module _ (bytes : List ℕ) (chart : Chart) (read : read_chart bytes ≡ accepted chart)
    (n : ℕ) (n_inside : n < chart.header.nodes) (t : Touch) (among : Among t (touches chart n)) where
  abbrev m : ℕ
  m = column_of chart t.block

  m-inside : m < block_count chart
  m-inside = column-inside bytes chart read n n_inside t among

  m-holds : block_at chart m ≡ t.block
  m-holds = column-holds bytes chart read n n_inside t among

  pub held-touch : (column : ℕ) → column < block_count chart → (since : Since) (x : NotedContents chart column) → HeldTrue chart column since x
      → HeldTrue chart column (touch_held chart column t since) ((noted_machine chart column).act t x)
  held-touch column inside since x says =
      subst
      (λ (b : ℕ). HeldTrue chart column (touch_held chart column t since) (touch (ways_of chart) (key_of chart) b x.0, note_touch chart column t x.1))
      m-holds
      (since-touch (columns_of (plan_of chart)) (ways_of chart) (key_of chart) (block_at chart) column (named bytes chart read) inside m m-inside
      since x.1 x.0 says)

  module _ (block : ℕ) (inside : column_of chart block < block_count chart) (whole : Whole) where
    abbrev column : ℕ
    column = column_of chart block

    -- Fewer members than ways: a touch of the block that is called kept is found once it is noted.
    kept-found : (contents : Contents chart) → HeldTrue chart column (whole.since column) (contents, true)
        → t.block ≡ block → called_kept chart t whole ≡ true → (plain_machine chart).finds t contents ≡ true
    kept-found contents says own called =
        let same : m ≡ column = ap (column_of chart) own in
        let stays = kept-few _ _ _ _ (eqb-true (class_of (plan_of chart) (column_touch chart t) whole) kept called) in
        subst (λ (b : ℕ). hits (key_of chart) b contents ≡ true) (ap (block_at chart) (sym same) ∙ m-holds)
        (stays-found (plan_of chart) (ways_of chart) (key_of chart) (block_at chart) (named bytes chart read) column inside (whole.since column) contents says
        (subst (λ (k : ℕ). stays_by (plan_of chart) k (whole.since k) ≡ true) same stays))

    noted-now : eqb t.block block ≡ true → eqb m column ≡ true
    noted-now own = eq-eqb m column (ap (column_of chart) (eqb-true t.block block own))

    -- So one that is called kept and misses spends the one miss that is left.
    pub touch-spends : (x : NotedContents chart column) → HeldTrue chart column (whole.since column) x
        → Spends (plain_machine chart) (touch_whole chart) (kept_miss chart block) (note_touch chart column) left t whole x
    touch-spends x says = go (eqb t.block block) (called_kept chart t whole) ((plain_machine chart).finds t x.0) x.1 refl refl refl refl
      where
        go : (own called found noted : Bool)
            → eqb t.block block ≡ own → called_kept chart t whole ≡ called → (plain_machine chart).finds t x.0 ≡ found → x.1 ≡ noted
            → cond (own && (called && not found)) 1 0 + left (eqb m column || noted) ≤ left noted
        go false called found noted o c f e = no-more (eqb m column) noted
        go true false found noted o c f e = no-more (eqb m column) noted
        go true true true noted o c f e = no-more (eqb m column) noted
        go true true false false o c f e = rw (noted-now o) (omega arith)
        go true true false true o c f e =
            let says-noted = subst (λ (b : Bool). HeldTrue chart column (whole.since column) (x.0, b)) e says in
            let found = kept-found x.0 says-noted (eqb-true t.block block o) c in
            let z : ◌≡◌ {A = ℕ} 0 1 = cc in
            absurd (omega arith)
