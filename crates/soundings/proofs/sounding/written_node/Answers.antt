use mathlib.Core.Path.{ap, ◌∙◌}
use Prim.Native.Nat.{ℕ}
use mathlib.Core.List.{List}
use Rattle.chart.specs.Layout.{word_at}
use Rattle.chart.specs.Record.{record_of}
use Rattle.chart.specs.Chart.{node_at}
use Rattle.chart.specs.Sounded.{node_out}
use Rattle.soundings.proofs.sounding.written_node.Goals as goal

pub returns : goal.returns
unfolding word_at record_of
returns c = ap node_out c.node_at.ensures
    ∙ ap (λ (bytes : List ℕ). node_out (node_at bytes 1)) c.three_kinds-chart.ensures
