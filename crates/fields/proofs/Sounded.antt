-- Reading one node and listing the blocks give what the soundings want, by computing.
use mathlib.Core.Path.{refl}
use Rattle.lists.specs.Soundings.{Hold}
use Rattle.blocks.specs.Blocks.{gathered, overfull}
use Rattle.chart.specs.Geometry.{block_of, shape_allowed}
use Rattle.chart.specs.Layout.{word_at}
use Rattle.chart.specs.Record.{record_keeps, record_of, touches_of}
use Rattle.chart.specs.Chart.{first_broken, first_overfull, read_chart}
use Rattle.fields.specs.Fields.{node_read, blocks_read}
use Rattle.fields.specs.Sounded.{nodes_read, blocks_listed, FieldsSounded}

nodes-read : Hold nodes_read
unfolding node_read read_chart word_at block_of shape_allowed record_keeps record_of touches_of first_broken first_overfull gathered overfull
nodes-read = refl

blocks-listed : Hold blocks_listed
unfolding blocks_read read_chart word_at block_of shape_allowed record_keeps record_of touches_of first_broken first_overfull gathered overfull
blocks-listed = refl

pub fields_sounded : FieldsSounded
fields_sounded = record { blocks_left = λ blocks answer. refl; nodes-read = nodes-read; blocks-listed = blocks-listed }
