use Rattle.demands.proofs.Demands.{demands}
use Rattle.soundings.proofs.demanded.asked_anything.Goals as goal

pub returns : goal.returns
returns c = demands.asked_anything
