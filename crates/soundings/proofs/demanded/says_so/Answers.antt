use Rattle.demands.proofs.Demands.{demands}
use Rattle.soundings.proofs.demanded.says_so.Goals as goal

pub returns : goal.returns
returns c = demands.says_so
