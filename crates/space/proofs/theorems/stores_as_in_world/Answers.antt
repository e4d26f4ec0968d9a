use Rattle.space.proofs.Stored.{stores_as_in_world}
use Rattle.space.proofs.theorems.stores_as_in_world.Goals as goal

pub returns : goal.returns
returns c = stores_as_in_world
