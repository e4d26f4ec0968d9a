use Rattle.space.proofs.Stored.{range_leaves_in_world}
use Rattle.space.proofs.theorems.range_leaves_in_world.Goals as goal

pub returns : goal.returns
returns c = range_leaves_in_world
