-- The plan of an accepted chart is sound: what its nodes do is what the chart says, its columns name its blocks, and two of them have one
-- key exactly if their blocks are of one set.
use Prim.Native.Nat.{ℕ, ◌≤◌, ◌<◌}
use mathlib.Core.Bool.{Bool, true≢false}
use mathlib.Core.List.{List, [], ◌∷◌, map}
use mathlib.Core.Logic.{inl, inr, ⊎_elim}
use mathlib.Core.Path.{◌≡◌, refl, sym, ap, subst, ◌∙◌}
use native.Mathlib.Omega.{arith}
use borrow.Author.Tests.{eqb-true, eq-eqb}
use lib.Dec.{eqb}
use lib.ListN.{get_or}
use Rattle.lists.specs.Lists.{Among}
use Rattle.lists.proofs.Listed.{get_or-list_of}
use Rattle.lists.proofs.Firsts.{first-test, first-fails, first-within}
use Rattle.lists.proofs.Orders.{below_or}
use Rattle.chart.specs.Record.{Touch}
use Rattle.chart.specs.Chart.{Chart, accepted, read_chart, arrows, touches, block_count}
use Rattle.chart.proofs.Allowed.{leads-in}
use Rattle.chart.proofs.Accepted.{accepted-entry, accepted-arrows, accepted-column}
use Rattle.cache.specs.Ages.{Ages}
use Rattle.flow.specs.Walk.{Onward, Reached, in_turn}
use Rattle.ages.specs.Plan.{ColumnTouch, PlanNode, Plan, nothing, columns_of, touches_in, arrows_in, after_touch, plan_flow, Sound}
use Rattle.ages.specs.Charted.{column_of, block_at, set_at, key_at, column_touch, node_plan, plan_of, touched_by, most_passes}
use Rattle.ages.specs.Limits.{LimitsWithin, enough_for}

-- ---- touches that stand for others

-- What stands among mapped elements is one of them, mapped.
among-mapped : {X Y : Type 0} (f : X → Y) (xs : List X) (y : Y) → Among y (map f xs) → (x : X) × (Among x xs × (y ≡ f x))
among-mapped f [] y i = absurd i
among-mapped f (x ∷ xs) y (inl e) = (x, (inl refl, e))
among-mapped f (x ∷ xs) y (inr i) = let rest = among-mapped f xs y i in (rest.0, (inr rest.1.0, rest.1.1))

pub turns-mapped : {D E S : Type 0} (f : D → E) (act : E → S → S) (touches : List D) (a : S) → in_turn act (map f touches) a ≡ in_turn (λ touch. act (f touch)) touches a
turns-mapped f act [] a = refl
turns-mapped f act (touch ∷ touches) a = turns-mapped f act touches (act (f touch) a)

module _ (chart : Chart) where
  abbrev plan : Plan
  plan = plan_of chart

  -- ---- nodes

  step-planned : (n : ℕ) → n < chart.header.nodes → get_or plan.steps n nothing ≡ node_plan chart n
  step-planned n h = get_or-list_of chart.header.nodes (node_plan chart) nothing n h

  pub touches-planned : (n : ℕ) → n < chart.header.nodes → touches_in plan n ≡ map (column_touch chart) (touches chart n)
  touches-planned n h = ap (λ (node : PlanNode). node.touches) (step-planned n h)

  pub arrows-planned : (n : ℕ) → n < chart.header.nodes → arrows_in plan n ≡ arrows chart n
  arrows-planned n h = ap (λ (node : PlanNode). node.arrows) (step-planned n h)

  -- The step of a node is its touches of blocks, in turn.
  pub step-touches : (n : ℕ) → n < chart.header.nodes → (a : Ages) → (plan_flow plan).step n a ≡ in_turn (touched_by chart) (touches chart n) a
  step-touches n h a =
      ap (λ (ts : List ColumnTouch). in_turn (after_touch plan) ts a) (touches-planned n h)
      ∙ turns-mapped (column_touch chart) (after_touch plan) (touches chart n) a

  -- ---- columns

  pub must-limit-planned : (column : ℕ) → column < block_count chart → (columns_of plan).must_limit column ≡ chart.header.geometry.ways
  must-limit-planned column h = get_or-list_of (block_count chart) (λ k. chart.header.geometry.ways) 0 column h

  pub may-limit-planned : (column : ℕ) → column < block_count chart → (columns_of plan).may_limit column ≡ chart.header.geometry.ways
  may-limit-planned column h = get_or-list_of (block_count chart) (λ k. chart.header.geometry.ways) 0 column h

  key-planned : (column : ℕ) → column < block_count chart → (columns_of plan).key column ≡ key_at chart column
  key-planned column h = get_or-list_of (block_count chart) (key_at chart) 0 column h

  abbrev same_set : ℕ → ℕ → Bool
  same_set column earlier = eqb (set_at chart earlier) (set_at chart column)

  -- A column's key is a column of its set, no later than it, and no earlier column is of that set.
  key_set : (column : ℕ) → set_at chart (key_at chart column) ≡ set_at chart column
  key_set column =
      ⊎_elim
      (λ (h : key_at chart column < column). eqb-true (set_at chart (key_at chart column)) (set_at chart column) (first-test column (same_set column) h))
      (λ (h : column ≤ key_at chart column). let same : key_at chart column ≡ column = omega (arith, first-within column (same_set column)) in ap (set_at chart) same)
      (below_or (key_at chart column) column)

  key-first : (column earlier : ℕ) → set_at chart earlier ≡ set_at chart column → earlier < key_at chart column → ⊥
  key-first column earlier e h =
      true≢false (sym (eq-eqb (set_at chart earlier) (set_at chart column) e) ∙ first-fails column (same_set column) earlier h)

  -- Two columns have one key exactly if their blocks are of one set.
  pub key-alike : (i j : ℕ) → key_at chart i ≡ key_at chart j → set_at chart i ≡ set_at chart j
  key-alike i j e = sym (key_set i) ∙ ap (set_at chart) e ∙ key_set j

  pub set-alike : (i j : ℕ) → set_at chart i ≡ set_at chart j → key_at chart i ≡ key_at chart j
  set-alike i j e =
      ⊎_elim
      (λ (h : key_at chart i < key_at chart j). absurd (key-first j (key_at chart i) (key_set i ∙ e) h))
      (λ (h : key_at chart j ≤ key_at chart i).
      ⊎_elim
      (λ (l : key_at chart j < key_at chart i). absurd (key-first i (key_at chart j) (key_set j ∙ sym e) l))
      (λ (l : key_at chart i ≤ key_at chart j). omega arith)
      (below_or (key_at chart j) (key_at chart i)))
      (below_or (key_at chart i) (key_at chart j))

  pub keys-set : (i j : ℕ) → i < block_count chart → j < block_count chart → (columns_of plan).key i ≡ (columns_of plan).key j → set_at chart i ≡ set_at chart j
  keys-set i j one other e = key-alike i j (sym (key-planned i one) ∙ e ∙ key-planned j other)

  pub sets-key : (i j : ℕ) → i < block_count chart → j < block_count chart → set_at chart i ≡ set_at chart j → (columns_of plan).key i ≡ (columns_of plan).key j
  sets-key i j one other e = key-planned i one ∙ set-alike i j e ∙ sym (key-planned j other)

  pub limits-planned : LimitsWithin plan chart.header.geometry.ways
  limits-planned column h = (omega (arith, must-limit-planned column h), omega (arith, may-limit-planned column h))

  pub enough-planned : enough_for plan chart.header.geometry.ways ≡ most_passes chart
  enough-planned = omega arith

-- ---- an accepted chart

module _ (bytes : List ℕ) (chart : Chart) (read : read_chart bytes ≡ accepted chart) where
  pub arrow-inside : (n t : ℕ) → n < chart.header.nodes → Among t (arrows chart n) → t < chart.header.nodes
  arrow-inside n t h = leads-in chart.header.nodes (chart.node n).targets (accepted-arrows bytes chart read n h) t

  -- A block that a node touches has a column, and stands there.
  pub column-inside : (n : ℕ) → n < chart.header.nodes → (touch : Touch) → Among touch (touches chart n) → column_of chart touch.block < block_count chart
  column-inside n h touch i = (accepted-column bytes chart read n h touch i).0

  pub column-holds : (n : ℕ) → n < chart.header.nodes → (touch : Touch) → Among touch (touches chart n) → block_at chart (column_of chart touch.block) ≡ touch.block
  column-holds n h touch i = (accepted-column bytes chart read n h touch i).1

  pub chart-sound : Sound (plan_of chart)
  chart-sound =
      record {
        entry_inside = accepted-entry bytes chart read;
        arrows-in = λ n t h i. arrow-inside n t h (subst (Among t) (arrows-planned chart n h) i);
        columns_in = λ n h touch i.
            let found = among-mapped (column_touch chart) (touches chart n) touch (subst (Among touch) (touches-planned chart n h) i) in
            subst (λ (t : ColumnTouch). t.column < block_count chart) (sym found.1.1) (column-inside n h found.0 found.1.0);
        one_limit = λ i j one other e. must-limit-planned chart i one ∙ sym (must-limit-planned chart j other);
      }

  -- A walk along the chart's arrows is one along the plan's, and the other way round.
  pub onward-planned : (n : ℕ) → n < chart.header.nodes → (ts : List ℕ) → Onward (arrows chart) n ts → Onward (arrows_in (plan_of chart)) n ts
  onward-planned n h [] on = tt
  onward-planned n h (t ∷ ts) on = (subst (Among t) (sym (arrows-planned chart n h)) on.0, onward-planned t (arrow-inside n t h on.0) ts on.1)

  pub planned-onward : (n : ℕ) → n < chart.header.nodes → (ts : List ℕ) → Onward (arrows_in (plan_of chart)) n ts → Onward (arrows chart) n ts
  planned-onward n h [] on = tt
  planned-onward n h (t ∷ ts) on =
      let step : Among t (arrows chart n) = subst (Among t) (arrows-planned chart n h) on.0 in
      (step, planned-onward t (arrow-inside n t h step) ts on.1)

  pub reached-planned : (n : ℕ) → Reached (arrows chart) chart.header.entry n → Reached (arrows_in (plan_of chart)) chart.header.entry n
  reached-planned n r = (r.0, (onward-planned chart.header.entry (accepted-entry bytes chart read) r.0 r.1.0, r.1.1))

  pub planned-reached : (n : ℕ) → Reached (arrows_in (plan_of chart)) chart.header.entry n → Reached (arrows chart) chart.header.entry n
  planned-reached n r = (r.0, (planned-onward chart.header.entry (accepted-entry bytes chart read) r.0 r.1.0, r.1.1))
