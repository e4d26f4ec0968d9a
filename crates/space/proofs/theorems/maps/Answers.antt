use Rattle.space.proofs.Spaces.{maps}
use Rattle.space.proofs.theorems.maps.Goals as goal

pub returns : goal.returns
returns c = maps
