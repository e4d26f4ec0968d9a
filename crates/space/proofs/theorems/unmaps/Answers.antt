use Rattle.space.proofs.Spaces.{unmaps}
use Rattle.space.proofs.theorems.unmaps.Goals as goal

pub returns : goal.returns
returns c = unmaps
