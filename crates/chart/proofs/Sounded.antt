-- The reader's soundings hold, by computing.
use mathlib.Core.List.{[], ◌∷◌}
use mathlib.Core.Path.{◌≡◌, refl}
use Rattle.lists.specs.Soundings.{Hold}
use Rattle.blocks.specs.Blocks.{gathered, overfull}
use Rattle.chart.specs.Layout.{word_at}
use Rattle.chart.specs.Header.{header_read}
use Rattle.chart.specs.Geometry.{block_of, shape_allowed}
use Rattle.chart.specs.Record.{record_keeps, record_of, arrows_of, touches_of}
use Rattle.chart.specs.Chart.{first_broken, first_overfull, read_chart}
use Rattle.chart.specs.Reading.{reading_of}
use Rattle.chart.specs.Sounded.{twin_arrows, chart_fields, node_counts, read_out, many_blocks}
use Rattle.chart.specs.Sizes.{sized_touches, sizes_refused, crowd, crowded}
use Rattle.chart.specs.Claims.{ChartSounded}

-- All that has to be seen through for a chart to be read.
all-unfolded : Unit {0}
unfolding reading_of header_read word_at block_of shape_allowed record_keeps record_of arrows_of touches_of gathered overfull first_broken first_overfull read_chart
all-unfolded = tt

fields_hold : Hold chart_fields
unfolding all-unfolded
fields_hold = refl

counts_hold : Hold node_counts
unfolding all-unfolded
counts_hold = refl

twins_hold : Hold twin_arrows
unfolding all-unfolded
twins_hold = refl

sizes_touch : Hold sized_touches
unfolding all-unfolded
sizes_touch = refl

sizes-refused : Hold sizes_refused
unfolding all-unfolded
sizes-refused = refl

-- One by one: all at once are too many steps.
two-more : read_out (crowd 0 62 0xF9) ≡ 0 ∷ 0 ∷ 64 ∷ []
unfolding all-unfolded
two-more = refl

last-and-over : read_out (crowd 0 63 0xFD) ≡ 10 ∷ 63 ∷ 0 ∷ []
unfolding all-unfolded
last-and-over = refl

two-over : read_out (crowd 0 64 0x101) ≡ 10 ∷ 64 ∷ 0 ∷ []
unfolding all-unfolded
two-over = refl

upper-last : read_out (crowd 0 63 0xF9) ≡ 0 ∷ 0 ∷ 64 ∷ []
unfolding all-unfolded
upper-last = refl

upper-over : read_out (crowd 0 64 0xFD) ≡ 10 ∷ 64 ∷ 0 ∷ []
unfolding all-unfolded
upper-over = refl

both-there : read_out (crowd 0 64 0x29) ≡ 0 ∷ 0 ∷ 64 ∷ []
unfolding all-unfolded
both-there = refl

lower_last : read_out (crowd 1 63 0x01) ≡ 0 ∷ 0 ∷ 64 ∷ []
unfolding all-unfolded
lower_last = refl

lower-over : read_out (crowd 1 64 0x01) ≡ 10 ∷ 64 ∷ 0 ∷ []
unfolding all-unfolded
lower-over = refl

crowds_counted : Hold crowded
crowds_counted = λ i. two-more i ∷ last-and-over i ∷ two-over i ∷ upper-last i ∷ upper-over i ∷ both-there i ∷ lower_last i ∷ lower-over i ∷ []

all_blocks : read_out (many_blocks 65) ≡ 0 ∷ 0 ∷ 64 ∷ []
unfolding all-unfolded
all_blocks = refl

one_block_more : read_out (many_blocks 66) ≡ 10 ∷ 65 ∷ 0 ∷ []
unfolding all-unfolded
one_block_more = refl

pub chart_sounded : ChartSounded
chart_sounded = record { fields_hold = fields_hold; counts_hold = counts_hold; twins_hold = twins_hold; sizes_touch = sizes_touch; sizes-refused = sizes-refused; crowds_counted = crowds_counted; header_whole = λ header. refl; all_blocks = all_blocks; one_block_more = one_block_more }
