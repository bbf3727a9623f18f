-- What a reader that accepts says of the chart.
use Rattle.std.specs.Prelude.{Ok, Err}
use Prim.Native.Nat.{ℕ, ◌*◌, ◌≤◌, ◌<◌}
use mathlib.Core.List.{List}
use mathlib.Core.Path.{◌≡◌, refl, sym, ap, subst, ◌∙◌}
use native.Mathlib.Nat.{mul-le-mul}
use native.Mathlib.Omega.{arith}
use lib.ListN.{length}
use Rattle.lists.specs.Lists.{padded}
use Rattle.lists.proofs.Lists.{length-padded}
use Rattle.blocks.specs.Listing.{Ascending}
use Rattle.chart.specs.declared.headers.Header.{Header}
use Rattle.chart.specs.declared.readings.Outline.{Outline}
use Rattle.chart.specs.declared.readings.Reading.{Reading}
use Rattle.refusals.specs.declared.Refusal.{Refusal}
use Rattle.chart.specs.Geometry.{most_nodes, most_blocks, most_set_bits}
use Rattle.chart.specs.Chart.{Chart, Read, accepted, refused, read_chart, records_in, chart_in, block_count}
use Rattle.chart.specs.Reading.{reading_of, reading, outlined}
use Rattle.chart.specs.Inner.{AllEnd, AcceptedAs}
use Rattle.chart.specs.Layout.{chart_length}
use Rattle.chart.proofs.Accepted.{accepted-chart, accepted-nodes, accepted-sets, accepted-entry, accepted-length, accepted-few, accepted-ascending, accepted-ends}

module _ (bytes : List ℕ) (answer : Reading) (answered : answer ≡ reading bytes) where
  verdict-of : (r : Read) → read_chart bytes ≡ r → answer ≡ reading_of r
  verdict-of r e = answered ∙ ap reading_of e

  pub reader-accepts : (outline : Outline) → answer.verdict ≡ Ok outline → AcceptedAs bytes outline.header outline.blocks answer.blocks
  unfolding reading_of
  reader-accepts outline q = go (read_chart bytes) refl
    where
      go : (r : Read) → read_chart bytes ≡ r → AcceptedAs bytes outline.header outline.blocks answer.blocks
      go (accepted chart) e =
          let same : Ok outline ≡ outlined chart.header (block_count chart) = sym q ∙ ap (λ (a : Reading). a.verdict) (verdict-of (accepted chart) e) in
          let is : chart ≡ chart_in bytes = accepted-chart bytes chart e in
          let outline-same : outline ≡ record { header = chart.header; blocks = block_count chart } = cc in
          let header-same : outline.header ≡ chart.header = ap (λ (o : Outline). o.header) outline-same in
          let count_same : outline.blocks ≡ block_count chart = ap (λ (o : Outline). o.blocks) outline-same in
          record {
            read = e ∙ ap accepted is;
            header_is = header-same ∙ ap (λ (c : Chart). c.header) is;
            count_is = count_same ∙ ap block_count is;
            array_is = ap (λ (a : Reading). a.blocks) (verdict-of (accepted chart) e) ∙ ap (λ (c : Chart). padded most_blocks c.blocks) is;
          }
      go (refused refusal) e =
          let same : Ok outline ≡ Err refusal = sym q ∙ ap (λ (a : Reading). a.verdict) (verdict-of (refused refusal) e) in
          let z : ◌≡◌ {A = ℕ} 0 1 = cc in
          absurd (omega arith)

  pub reader-refuses : (refusal : Refusal) → answer.verdict ≡ Err refusal → read_chart bytes ≡ refused refusal
  unfolding reading_of
  reader-refuses refusal q = go (read_chart bytes) refl
    where
      go : (r : Read) → read_chart bytes ≡ r → read_chart bytes ≡ refused refusal
      go (accepted chart) e =
          let same : Err refusal ≡ outlined chart.header (block_count chart) = sym q ∙ ap (λ (a : Reading). a.verdict) (verdict-of (accepted chart) e) in
          let z : ◌≡◌ {A = ℕ} 0 1 = cc in
          absurd (omega arith)
      go (refused other) e =
          let same : Err refusal ≡ Err other = sym q ∙ ap (λ (a : Reading). a.verdict) (verdict-of (refused other) e) in
          let d : other ≡ refusal = cc in
          e ∙ ap refused d

-- ---- what follows of such findings

module _ {bytes : List ℕ} {header : Header} {count : ℕ} {array : List ℕ} (found : AcceptedAs bytes header count array) where
  abbrev chart : Chart
  chart = chart_in bytes

  pub found-nodes : header.nodes ≤ most_nodes
  found-nodes = subst (λ (h : Header). h.nodes ≤ most_nodes) (sym found.header_is) (accepted-nodes bytes chart found.read)

  pub found-sets : header.geometry.sets ≤ most_set_bits
  found-sets = subst (λ (h : Header). h.geometry.sets ≤ most_set_bits) (sym found.header_is) (accepted-sets bytes chart found.read)

  pub found-entry : header.entry < header.nodes
  found-entry = subst (λ (h : Header). h.entry < h.nodes) (sym found.header_is) (accepted-entry bytes chart found.read)

  pub found-length : length bytes ≡ chart_length header.nodes
  found-length = accepted-length bytes chart found.read ∙ ap (λ (h : Header). chart_length h.nodes) (sym found.header_is)

  pub found-blocks : count ≤ most_blocks
  found-blocks = subst (λ (n : ℕ). n ≤ most_blocks) (sym found.count_is) (accepted-few bytes chart found.read)

  pub found-array : count ≤ length array
  found-array =
      let long : length array ≡ most_blocks = ap length found.array_is ∙ length-padded most_blocks chart.blocks (accepted-few bytes chart found.read) in
      omega (arith, found-blocks)

  pub found-ends : AllEnd (records_in bytes) header.nodes
  found-ends = subst (λ (h : Header). AllEnd (records_in bytes) h.nodes) (sym found.header_is) (accepted-ends bytes chart found.read)

  pub found-ages : header.nodes * count ≤ most_nodes * most_blocks
  found-ages = mul-le-mul found-nodes found-blocks

  pub found-ascending : Ascending count array
  found-ascending =
      subst (λ (l : List ℕ). Ascending count l) (sym found.array_is)
      (subst (λ (n : ℕ). Ascending n (padded most_blocks chart.blocks)) (sym found.count_is) (accepted-ascending bytes chart found.read))
