-- What is claimed of the reader's definitions: its soundings, the header's numbers whole, and the limit of the blocks from both sides.
-- Nothing here is a rule of the tool: `chart_sounded` in proofs/Sounded.antt proves it.
use Rattle.std.specs.Prelude.{[], ◌∷◌, ◌≡◌}
use Rattle.lists.specs.Soundings.{Hold}
use Rattle.chart.specs.declared.headers.Header.{Header}
use Rattle.chart.specs.Header.{start_code, header_numbers}
use Rattle.chart.specs.Sounded.{read_out, many_blocks, chart_fields, node_counts, twin_arrows}
use Rattle.chart.specs.Sizes.{sized_touches, sizes_refused, crowded}

pub record ChartSounded : Type 0 where
  pub fields_hold : Hold chart_fields
  pub counts_hold : Hold node_counts
  pub twins_hold : Hold twin_arrows
  -- sizes: what is touched, what is refused, and one node that brings two blocks
  pub sizes_touch : Hold sized_touches
  pub sizes-refused : Hold sizes_refused
  pub crowds_counted : Hold crowded
  pub header_whole : (header : Header)
      → header_numbers header ≡ header.geometry.line ∷ header.geometry.sets ∷ header.geometry.ways ∷ start_code header.start ∷ header.nodes ∷ header.entry ∷ []
  -- 64 blocks are a chart; the 65th is brought by node 65
  pub all_blocks : read_out (many_blocks 65) ≡ 0 ∷ 0 ∷ 64 ∷ []
  pub one_block_more : read_out (many_blocks 66) ≡ 10 ∷ 65 ∷ 0 ∷ []
