use Rattle.demands.proofs.Soundings.{sounded}
use Rattle.soundings.proofs.demanded.sounded.Goals as goal

pub returns : goal.returns
returns c = sounded
