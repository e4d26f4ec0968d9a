use Rattle.space.proofs.Spaces.{nothing_beyond}
use Rattle.space.proofs.theorems.nothing_beyond.Goals as goal

pub returns : goal.returns
returns c = nothing_beyond
