use Rattle.demands.proofs.Bounding.{bounding}
use Rattle.soundings.proofs.demanded.bounds_anything.Goals as goal

pub returns : goal.returns
returns c = bounding
