use Rattle.space.proofs.Spaces.{range_leaves}
use Rattle.space.proofs.theorems.range_leaves.Goals as goal

pub returns : goal.returns
returns c = range_leaves
