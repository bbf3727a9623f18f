-- Two lists in which the columns, the head and the nodes of a chart were stored hold the chart's plan.
use Rattle.std.specs.Prelude.{None, Option, Some}
use Prim.Native.Nat.{ℕ, ◌+◌, ◌*◌, ◌≤◌, ◌<◌}
use mathlib.Core.Bool.{Bool, true, false, cond, not}
use mathlib.Core.List.{List, [], ◌∷◌, map}
use mathlib.Core.Logic.{inl, inr}
use mathlib.Core.Path.{◌≡◌, refl, sym, ap, subst, ◌∙◌}
use native.Mathlib.Omega.{arith}
use borrow.Author.Tests.{eq-eqb, ne_eqb, eqb-true, eqb-false}
use lib.Dec.{eqb}
use lib.ListN.{length, get_or, take, replicate}
use Rattle.lists.specs.Choice.{first}
use Rattle.lists.specs.Lists.{Among, list_of, padded}
use Rattle.lists.specs.Loops.{patch}
use Rattle.lists.proofs.Choice.{first-same}
use Rattle.lists.proofs.Listed.{list_of-same}
use Rattle.lists.proofs.Lists.{get_or-padded}
use Rattle.lists.proofs.Loops.{patch-in0}
use Rattle.blocks.specs.Blocks.{place_in}
use Rattle.blocks.proofs.Arrays.{laid-take}
use Rattle.chart.specs.declared.shape.Geometry.{Geometry}
use Rattle.chart.specs.declared.headers.Header.{Header}
use Rattle.chart.specs.Header.{start_code}
use Rattle.chart.specs.declared.headers.Start.{Start}
use Rattle.chart.specs.declared.headers.Start.TheVariants.{Unknown, Empty}
use Rattle.chart.specs.Geometry.{most_nodes, most_blocks, block_of, set_of}
use Rattle.chart.specs.Record.{Touch, both_touched, touches_of}
use Rattle.chart.specs.Chart.{Chart, accepted, refused, read_chart, chart_in, block_count, node_at}
use Rattle.chart.specs.Inner.{AcceptedAs}
use Rattle.chart.proofs.Accepted.{accepted-chart, accepted-nodes, accepted-few, accepted-column}
use Rattle.chart.proofs.Answers.{found-blocks}
use Rattle.refusals.specs.declared.Refusal.{Refusal}
use Rattle.ages.specs.Plan.{Sound}
use Rattle.ages.specs.Charted.{column_of, set_at, key_at, column_touch, node_plan, is_empty, plan_of}
use Rattle.ages.proofs.Charting.{chart-sound}
use Rattle.plan.specs.Listed.{nodes_in, blocks_in, node_place, node_in, touches_by, plan_node, plan_in, Drawn}
use Rattle.drawing.specs.Columns.{alike, ColumnsDrawn}
use Rattle.drawing.specs.Nodes.{head_numbers, ColumnsNarrow, planned_by, node_by, AllNarrow, NodesDrawn}
use Rattle.drawing.specs.Drawing.{Draws}
use Rattle.chart.specs.declared.records.Reference.{Reference}

-- What is stored, place by place, of a header and an array of so many blocks.
record Stored (bytes array columns plan : List ℕ) (header : Header) (count : ℕ) : Type 0 where
  key : (k : ℕ) → k < count → get_or columns k 0 ≡ first k (λ earlier. eqb (set_of header.geometry (get_or array earlier 0)) (set_of header.geometry (get_or array k 0)))
  must-limit : (k : ℕ) → k < count → get_or columns (most_blocks + k) 0 ≡ header.geometry.ways
  may-limit : (k : ℕ) → k < count → get_or columns (2 * most_blocks + k) 0 ≡ header.geometry.ways
  head : (k : ℕ) → k < 4 → get_or plan k 0 ≡ get_or (head_numbers header count) k 0
  node : (n : ℕ) → n < header.nodes → node_in plan n ≡ node_by header.geometry (take count array) (node_at bytes n)

empty-number : (start : Start) → not (eqb (start_code start) 0) ≡ is_empty start
empty-number Unknown = refl
empty-number Empty = refl

-- ---- the touches of a record, by columns

module _ (chart : Chart) where
  -- A block stands in the list, at its place.
  abbrev Listed : ℕ → Type 0
  Listed block = (place_in chart.blocks block < block_count chart) × (get_or chart.blocks (place_in chart.blocks block) 0 ≡ block)

  both-listed : (write : Bool) (lower upper : ℕ) → ((touch : Touch) → Among touch (both_touched write lower upper) → Listed touch.block) → Listed lower × Listed upper
  both-listed write lower upper each = (below, go (eqb lower upper) refl)
    where
      below : Listed lower
      below = each (record { block = lower; write = write }) (inl refl)

      go : (t : Bool) → eqb lower upper ≡ t → Listed upper
      go true e = subst Listed (eqb-true lower upper e) below
      go false e = each (record { block = upper; write = write }) (rw e (inr (inl refl)))

  -- Two listed blocks have one place exactly if they are one.
  places-alike : (lower upper : ℕ) → Listed lower → Listed upper → eqb (place_in chart.blocks lower) (place_in chart.blocks upper) ≡ eqb lower upper
  places-alike lower upper low high = go (eqb lower upper) refl
    where
      go : (t : Bool) → eqb lower upper ≡ t → eqb (place_in chart.blocks lower) (place_in chart.blocks upper) ≡ t
      go true e = eq-eqb _ _ (ap (place_in chart.blocks) (eqb-true lower upper e))
      go false e =
          ne_eqb _ _ (λ q. eqb-false lower upper e (sym low.1 ∙ ap (λ (k : ℕ). get_or chart.blocks k 0) q ∙ high.1))

  module _ (geometry : Geometry) where
    abbrev AllListed : Option Reference → Type 0
    AllListed what = (touch : Touch) → Among touch (touches_of geometry what) → Listed touch.block

    narrow-columns : block_count chart ≤ most_blocks → (what : Option Reference) → AllListed what → ColumnsNarrow (planned_by geometry chart.blocks what)
    unfolding touches_of
    narrow-columns few None each = tt
    narrow-columns few (Some reference) each =
        let both = both-listed reference.write (block_of geometry reference.address) (block_of geometry reference.last) each in
        (omega (arith, both.0.0), omega (arith, both.1.0))

    touches_are : (what : Option Reference) → AllListed what → touches_by (planned_by geometry chart.blocks what) ≡ map (column_touch chart) (touches_of geometry what)
    unfolding touches_of
    touches_are None each = refl
    touches_are (Some reference) each =
        let lower = block_of geometry reference.address in
        let upper = block_of geometry reference.last in
        let both = both-listed reference.write lower upper each in
        ap (λ (t : Bool). record { column = column_of chart lower; write = reference.write } ∷ cond t [] (record { column = column_of chart upper; write = reference.write } ∷ [])) (places-alike lower upper both.0 both.1)
        ∙ go (eqb lower upper)
      where
        go : (t : Bool) → record { column = column_of chart (block_of geometry reference.address); write = reference.write } ∷ cond t [] (record { column = column_of chart (block_of geometry reference.last); write = reference.write } ∷ [])
            ≡ map (column_touch chart) (record { block = block_of geometry reference.address; write = reference.write } ∷ cond t [] (record { block = block_of geometry reference.last; write = reference.write } ∷ []))
        go true = refl
        go false = refl

-- ---- the plan

module _ (bytes : List ℕ) (chart : Chart) (read : read_chart bytes ≡ accepted chart) (array columns plan : List ℕ) (laid : array ≡ padded most_blocks chart.blocks) (stored : Stored bytes array columns plan chart.header (block_count chart)) where
  nodes_are : nodes_in plan ≡ chart.header.nodes
  nodes_are = stored.head 0 (omega arith)

  blocks_are : blocks_in plan ≡ block_count chart
  blocks_are = stored.head 1 (omega arith)

  set_is : (k : ℕ) → k < block_count chart → set_of chart.header.geometry (get_or array k 0) ≡ set_at chart k
  set_is k h = ap (set_of chart.header.geometry) (ap (λ (l : List ℕ). get_or l k 0) laid ∙ get_or-padded most_blocks chart.blocks k h)

  key-is : (k : ℕ) → k < block_count chart → get_or columns k 0 ≡ key_at chart k
  key-is k h =
      stored.key k h
      ∙ first-same k (λ e. eqb (set_of chart.header.geometry (get_or array e 0)) (set_of chart.header.geometry (get_or array k 0)))
      (λ e. eqb (set_at chart e) (set_at chart k))
      (λ e l. let here : e < block_count chart = omega arith in λ i. eqb (set_is e here i) (set_is k h i))

  step_is : (n : ℕ) → n < chart.header.nodes → plan_node (node_in plan n) ≡ node_plan chart n
  step_is n h =
      let blocks : take (block_count chart) array ≡ chart.blocks = laid-take most_blocks (block_count chart) array chart.blocks refl laid in
      let same : node_at bytes n ≡ chart.node n = ap (λ (c : Chart). c.node n) (sym (accepted-chart bytes chart read)) in
      ap plan_node (stored.node n h ∙ (λ i. node_by chart.header.geometry (blocks i) (same i)))
      ∙ (λ i. record { touches = touches_are chart chart.header.geometry (chart.node n).what (λ touch i. accepted-column bytes chart read n h touch i) i; arrows = (node_plan chart n).arrows })

  columns-are : (f g : ℕ → ℕ) → ((k : ℕ) → k < block_count chart → f k ≡ g k) → list_of (blocks_in plan) f ≡ list_of (block_count chart) g
  columns-are f g same = ap (λ (n : ℕ). list_of n f) blocks_are ∙ list_of-same (block_count chart) f g same

  steps-are : list_of (nodes_in plan) (λ n. plan_node (node_in plan n)) ≡ list_of chart.header.nodes (node_plan chart)
  steps-are =
      ap (λ (count : ℕ). list_of count (λ n. plan_node (node_in plan n))) nodes_are
      ∙ list_of-same chart.header.nodes (λ n. plan_node (node_in plan n)) (node_plan chart) step_is

  plan-held : plan_in columns plan ≡ plan_of chart
  plan-held =
      λ i. record {
        nodes = nodes_are i;
        blocks = blocks_are i;
        entry = stored.head 2 (omega arith) i;
        empty = (ap (λ (k : ℕ). not (eqb k 0)) (stored.head 3 (omega arith)) ∙ empty-number chart.header.start) i;
        keys = columns-are (λ k. get_or columns k 0) (key_at chart) key-is i;
        must_limits = columns-are (λ k. get_or columns (most_blocks + k) 0) (λ k. chart.header.geometry.ways) stored.must-limit i;
        may_limits = columns-are (λ k. get_or columns (2 * most_blocks + k) 0) (λ k. chart.header.geometry.ways) stored.may-limit i;
        steps = steps-are i;
      }

  plan-drawn : 3 * most_blocks ≤ length columns → node_place most_nodes ≤ length plan → Drawn columns plan
  plan-drawn columns_long plan_long =
      let few : nodes_in plan ≤ most_nodes = omega (arith, nodes_are, accepted-nodes bytes chart read) in
      record {
        columns_long = columns_long;
        plan_long = omega arith;
        few_nodes = few;
        few_blocks = omega (arith, blocks_are, accepted-few bytes chart read);
        sound = subst Sound (sym plan-held) (chart-sound bytes chart read);
      }

-- ---- from what a reader finds and what the functions store

module _ (bytes : List ℕ) (header : Header) (count : ℕ) (array : List ℕ) (found : AcceptedAs bytes header count array) (sets columns start headed plan : List ℕ)
    (of-sets : sets ≡ patch (replicate most_blocks 0) 0 count (λ k. set_of header.geometry (get_or array k 0)))
    (of-columns : ColumnsDrawn sets header.geometry.ways count columns)
    (long : 4 ≤ length start)
    (of-head : headed ≡ patch start 0 4 (λ k. get_or (head_numbers header count) k 0))
    (of-nodes : NodesDrawn header.nodes (λ n. node_by header.geometry (take count array) (node_at bytes n)) headed plan) where
  set_found : (k : ℕ) → k < count → get_or sets k 0 ≡ set_of header.geometry (get_or array k 0)
  set_found k h =
      ap (λ (l : List ℕ). get_or l k 0) of-sets
      ∙ patch-in0 (replicate most_blocks 0) count (λ j. set_of header.geometry (get_or array j 0)) k (found-blocks found) h

  all-stored : Stored bytes array columns plan header count
  all-stored =
      record {
        key = λ k h.
            of-columns.keys k h
            ∙ first-same k (alike sets k) (λ e. eqb (set_of header.geometry (get_or array e 0)) (set_of header.geometry (get_or array k 0)))
            (λ e l. let here : e < count = omega arith in λ i. eqb (set_found e here i) (set_found k h i));
        must-limit = of-columns.must-limits;
        may-limit = of-columns.may-limits;
        head = λ k h. of-nodes.head_stays k h ∙ ap (λ (l : List ℕ). get_or l k 0) of-head ∙ patch-in0 start 4 (λ j. get_or (head_numbers header count) j 0) k long h;
        node = of-nodes.nodes;
      }

  chart-stored : Stored bytes array columns plan (chart_in bytes).header (block_count (chart_in bytes))
  chart-stored =
      subst (Stored bytes array columns plan (chart_in bytes).header) found.count_is
      (subst (λ (h : Header). Stored bytes array columns plan h count) found.header_is all-stored)

  pub chart-draws : 3 * most_blocks ≤ length columns → node_place most_nodes ≤ length plan → Draws bytes columns plan
  chart-draws columns_long plan_long =
      record {
        plan_is = λ chart read. plan-held bytes (chart_in bytes) found.read array columns plan found.array_is chart-stored ∙ ap plan_of (sym (accepted-chart bytes chart read));
        drawn = λ chart read. plan-drawn bytes (chart_in bytes) found.read array columns plan found.array_is chart-stored columns_long plan_long;
      }

-- What a reader finds has all blocks that are touched.
pub found-narrow : {bytes : List ℕ} {header : Header} {count : ℕ} {array : List ℕ} → AcceptedAs bytes header count array → AllNarrow header.geometry (take count array) bytes header.nodes
found-narrow {bytes} {header} {count} {array} found n h =
    let chart : Chart = chart_in bytes in
    let blocks : take count array ≡ chart.blocks = laid-take most_blocks count array chart.blocks found.count_is found.array_is in
    subst (λ (l : List ℕ). ColumnsNarrow (planned_by header.geometry l (node_at bytes n).what)) (sym blocks)
    (subst (λ (g : Header). ColumnsNarrow (planned_by g.geometry chart.blocks (node_at bytes n).what)) (sym found.header_is)
    (narrow-columns chart chart.header.geometry (accepted-few bytes chart found.read) (node_at bytes n).what
    (λ touch i. accepted-column bytes chart found.read n (subst (λ (g : Header). n < g.nodes) found.header_is h) touch i)))

-- Bytes that are no chart's ask nothing of the lists.
pub refused-draws : (bytes columns plan : List ℕ) (refusal : Refusal) → read_chart bytes ≡ refused refusal → Draws bytes columns plan
refused-draws bytes columns plan refusal none =
    let never : (chart : Chart) → read_chart bytes ≡ accepted chart → ⊥ = λ chart read. (let z : ◌≡◌ {A = ℕ} 0 1 = cc in omega arith) in
    record { plan_is = λ chart read. absurd (never chart read); drawn = λ chart read. absurd (never chart read) }
