-- What is known of the chart that accepted bytes hold: what the rules would have refused.
use mathlib.Core.Bool.{true}
use mathlib.Core.List.{List}
use mathlib.Core.Path.{◌≡◌, sym, ◌∙◌}
use Prim.Native.Nat.{ℕ, suc, ◌-◌, ◌≤◌, ◌<◌}
use native.Mathlib.Omega.{arith}
use borrow.Author.Tests.{ltb-false, leb-false, eqb-true, not-false}
use lib.ListN.{length, get_or}
use Rattle.lists.specs.Choice.{NoneApplies}
use Rattle.lists.specs.Lists.{padded, Among}
use Rattle.lists.proofs.Choice.{none-applies, first-otherwise, none_passes}
use Rattle.lists.proofs.Joined.{among-map}
use Rattle.blocks.specs.Blocks.{overfull, gathered, place_in}
use Rattle.blocks.specs.Listing.{Ascending}
use Rattle.blocks.proofs.Insertion.{asc-gathered, ascending-apart}
use Rattle.blocks.proofs.Arrays.{ascending-padded}
use Rattle.blocks.proofs.Placed.{placed-gathered}
use Rattle.chart.specs.declared.headers.Header.{Header}
use Rattle.chart.specs.Layout.{chart_length}
use Rattle.chart.specs.Geometry.{most_nodes, most_blocks, most_set_bits, most_ways, shape_allowed}
use Rattle.chart.specs.Header.{header_in}
use Rattle.chart.specs.Record.{record_keeps, Leads, Touch}
use Rattle.chart.specs.Chart.{Chart, accepted, refused, records_in, chart_in, chart_cases, read_chart, block_count, broken_at, first_broken, overfull_at, first_overfull, blocks_at, touches}
use Rattle.chart.specs.Inner.{AllEnd}
use Rattle.chart.proofs.Allowed.{between-both, line-bounds, sets-bound, ways-bounds, keeps-leads, keeps-sized, keeps-ends}

module _ (bytes : List ℕ) (chart : Chart) (read : read_chart bytes ≡ accepted chart) where
  accepted_none : NoneApplies (chart_cases bytes)
  unfolding read_chart
  accepted_none =
      none-applies refused (chart_cases bytes) (accepted (chart_in bytes)) (accepted chart) (λ x q. let z : ◌≡◌ {A = ℕ} 0 1 = cc in omega arith) read

  pub accepted-chart : chart ≡ chart_in bytes
  unfolding read_chart
  accepted-chart =
      let same : accepted (chart_in bytes) ≡ accepted chart = sym (first-otherwise refused (chart_cases bytes) (accepted (chart_in bytes)) accepted_none) ∙ read in
      cc

  pub accepted-length : length bytes ≡ chart_length chart.header.nodes
  accepted-length = rw accepted-chart (eqb-true (length bytes) (chart_length (header_in bytes).nodes) (not-false _ accepted_none.1.1.1.1.1.1.1.0))

  nodes-between : (1 ≤ (header_in bytes).nodes) × ((header_in bytes).nodes ≤ most_nodes)
  nodes-between = between-both 1 most_nodes (header_in bytes).nodes (not-false _ accepted_none.1.1.1.1.0)

  pub accepted-nodes : chart.header.nodes ≤ most_nodes
  accepted-nodes = rw accepted-chart nodes-between.1

  pub accepted-entry : chart.header.entry < chart.header.nodes
  accepted-entry = rw accepted-chart (leb-false (header_in bytes).nodes (header_in bytes).entry accepted_none.1.1.1.1.1.0)

  shaped : shape_allowed (header_in bytes).geometry ≡ true
  shaped = not-false _ accepted_none.1.1.0

  pub accepted-lines : (2 ≤ chart.header.geometry.line) × (chart.header.geometry.line ≤ 8)
  accepted-lines = rw accepted-chart (line-bounds (header_in bytes).geometry shaped)

  pub accepted-sets : chart.header.geometry.sets ≤ most_set_bits
  accepted-sets = rw accepted-chart (sets-bound (header_in bytes).geometry shaped)

  pub accepted-ways : (1 ≤ chart.header.geometry.ways) × (chart.header.geometry.ways ≤ most_ways)
  accepted-ways = rw accepted-chart (ways-bounds (header_in bytes).geometry shaped)

  -- The blocks that each node brings.
  abbrev brought : ℕ → List ℕ
  brought = blocks_at (header_in bytes).geometry (records_in bytes)

  -- Rule 3.4, its limit: the last of the nodes, of which there is one at least, does not bring too many.
  pub accepted-few : block_count chart ≤ most_blocks
  unfolding first_overfull overfull
  accepted-few =
      let header : Header = header_in bytes in
      let some : 0 < header.nodes = omega (arith, nodes-between) in
      let last = none_passes header.nodes (overfull_at header.geometry (records_in bytes)) accepted_none.1.1.1.1.1.1.1.1.1.0 (header.nodes - 1) (omega arith) in
      let most = ltb-false most_blocks (length (gathered brought (suc (header.nodes - 1)))) last in
      let all : suc (header.nodes - 1) ≡ header.nodes = omega arith in
      rw accepted-chart (rw all at most)

  -- The blocks, laid into an array, ascend.
  pub accepted-ascending : Ascending (block_count chart) (padded most_blocks chart.blocks)
  accepted-ascending =
      rw accepted-chart
      (ascending-padded most_blocks (chart_in bytes).blocks (asc-gathered brought (header_in bytes).nodes))

  -- So different places hold different blocks.
  pub accepted-apart : (i j : ℕ) → i < block_count chart → j < block_count chart → get_or chart.blocks i 0 ≡ get_or chart.blocks j 0 → i ≡ j
  accepted-apart =
      rw accepted-chart
      (ascending-apart (block_count (chart_in bytes)) (chart_in bytes).blocks (asc-gathered brought (header_in bytes).nodes))

  -- Each record keeps its rules.
  accepted-keeps : (n : ℕ) → n < (header_in bytes).nodes → record_keeps (header_in bytes).nodes (records_in bytes n) ≡ true
  unfolding first_broken
  accepted-keeps n h = not-false _ (none_passes (header_in bytes).nodes (broken_at (records_in bytes) (header_in bytes).nodes) accepted_none.1.1.1.1.1.1.1.1.0 n h)

  pub accepted-arrows : (n : ℕ) → n < chart.header.nodes → Leads chart.header.nodes (chart.node n).targets
  accepted-arrows n h =
      rw accepted-chart (keeps-leads (header_in bytes).nodes (records_in bytes n) (accepted-keeps n (rw accepted-chart at h)))

  pub accepted-sized : (n : ℕ) → n < chart.header.nodes → (records_in bytes n).size ≤ 2
  accepted-sized n h = keeps-sized (header_in bytes).nodes (records_in bytes n) (accepted-keeps n (rw accepted-chart at h))

  pub accepted-ends : AllEnd (records_in bytes) chart.header.nodes
  accepted-ends n h = keeps-ends (header_in bytes).nodes (records_in bytes n) (accepted-keeps n (rw accepted-chart at h))

  -- The block of each touch of a node stands at its place among the chart's blocks.
  pub accepted-column : (n : ℕ) → n < chart.header.nodes → (t : Touch) → Among t (touches chart n) → (place_in chart.blocks t.block < block_count chart) × (get_or chart.blocks (place_in chart.blocks t.block) 0 ≡ t.block)
  accepted-column n h t i =
      rw accepted-chart
      (placed-gathered brought n t.block
      (among-map (λ (touch : Touch). touch.block) t (touches (chart_in bytes) n) (rw accepted-chart at i))
      (header_in bytes).nodes (rw accepted-chart at h))
