use Rattle.demands.proofs.Certified.{certified}
use Rattle.soundings.proofs.demanded.kept_within_bounds.Goals as goal

pub returns : goal.returns
returns c = certified
