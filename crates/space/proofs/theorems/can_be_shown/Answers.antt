use Rattle.space.proofs.Stored.{can_be_shown}
use Rattle.space.proofs.theorems.can_be_shown.Goals as goal

pub returns : goal.returns
returns c = can_be_shown
