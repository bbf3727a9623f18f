use Rattle.demands.proofs.OnTime.{on-time}
use Rattle.soundings.proofs.demanded.kept_in_time.Goals as goal

pub returns : goal.returns
returns c = on-time
