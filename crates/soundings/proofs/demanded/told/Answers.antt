use Rattle.boundary.proofs.Sounded.{told-sounded}
use Rattle.soundings.proofs.demanded.told.Goals as goal

pub returns : goal.returns
returns c = told-sounded
