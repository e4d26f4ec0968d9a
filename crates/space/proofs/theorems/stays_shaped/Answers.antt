use Rattle.space.proofs.Spaces.{stays_shaped}
use Rattle.space.proofs.theorems.stays_shaped.Goals as goal

pub returns : goal.returns
returns c = stays_shaped
