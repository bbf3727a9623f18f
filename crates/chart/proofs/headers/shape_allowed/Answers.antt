use lib.Dec.{leb-zero}
use Rattle.chart.specs.Geometry.{shape_allowed}
use Rattle.chart.proofs.headers.shape_allowed.Goals as goal

pub returns : goal.returns
unfolding shape_allowed
returns c = rw leb-zero
