use Rattle.demands.proofs.RoundTrip.{round_trip}
use Rattle.soundings.proofs.demanded.comes_back.Goals as goal

pub returns : goal.returns
returns c = round_trip
