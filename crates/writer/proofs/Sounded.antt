-- The writer's definitions give what the soundings want, by computing.
use mathlib.Core.Path.{refl}
use Rattle.lists.specs.Soundings.{Hold}
use Rattle.writer.specs.Writer.{wrote}
use Rattle.chart.specs.Geometry.{block_of, shape_allowed}
use Rattle.chart.specs.Record.{record_keeps, record_of, touches_of}
use Rattle.chart.specs.Chart.{first_broken, first_overfull}
use Rattle.blocks.specs.Blocks.{gathered, overfull}
use Rattle.writer.specs.Sounded.{loop_written, fields_packed, headings_refused, nodes_refused, ordered, crowds, WriterSounded}

loop-written : Hold loop_written
unfolding wrote block_of shape_allowed record_keeps record_of touches_of first_broken first_overfull gathered overfull
loop-written = refl

fields-packed : Hold fields_packed
fields-packed = refl

headings-refused : Hold headings_refused
unfolding wrote block_of shape_allowed record_keeps record_of touches_of first_broken first_overfull gathered overfull
headings-refused = refl

nodes-refused : Hold nodes_refused
unfolding wrote block_of shape_allowed record_keeps record_of touches_of first_broken first_overfull gathered overfull
nodes-refused = refl

ordered_hold : Hold ordered
unfolding wrote block_of shape_allowed record_keeps record_of touches_of first_broken first_overfull gathered overfull
ordered_hold = refl

crowds_hold : Hold crowds
unfolding wrote block_of shape_allowed record_keeps record_of touches_of first_broken first_overfull gathered overfull
crowds_hold = refl

pub writer_sounded : WriterSounded
writer_sounded =
    record {
      chart_left = λ chart answer. refl;
      lists_lent = λ kinds addresses sizes outs firsts seconds. refl;
      loop-written = loop-written;
      fields-packed = fields-packed;
      headings-refused = headings-refused;
      nodes-refused = nodes-refused;
      ordered_hold = ordered_hold;
      crowds_hold = crowds_hold;
    }
