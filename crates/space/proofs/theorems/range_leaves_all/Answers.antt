use Rattle.space.proofs.Spaces.{range_leaves_all}
use Rattle.space.proofs.theorems.range_leaves_all.Goals as goal

pub returns : goal.returns
returns c = range_leaves_all
