use Rattle.image.proofs.Written.{one_world}
use Rattle.image.proofs.theorems.one_world.Goals as goal

pub returns : goal.returns
returns c = one_world
