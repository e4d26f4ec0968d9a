use Rattle.space.proofs.Stored.{seen_as_in_world}
use Rattle.space.proofs.theorems.seen_as_in_world.Goals as goal

pub returns : goal.returns
returns c = seen_as_in_world
