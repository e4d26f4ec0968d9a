use Rattle.image.proofs.Rowed.{events_limit_holds}
use Rattle.image.proofs.theorems.events_limit_holds.Goals as goal

pub returns : goal.returns
returns c = events_limit_holds
