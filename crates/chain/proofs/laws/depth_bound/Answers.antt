use Rattle.chain.proofs.Kept.{depth_bound}
use Rattle.chain.proofs.laws.depth_bound.Goals as goal

pub returns : goal.returns
returns c = depth_bound
