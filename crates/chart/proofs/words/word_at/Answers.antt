use Prim.Native.Nat.{◌*◌}
use Rattle.chart.specs.Layout.{word_at}
use Rattle.chart.proofs.Numbers.{two-halves}
use Rattle.chart.proofs.words.word_at.Goals as goal

pub returns : goal.returns
unfolding word_at
returns c = let a = c.args in
    rw (c.half_at.ensures.0, c.half_at-2.ensures.0) (two-halves a.chart.now (8 * a.n))
