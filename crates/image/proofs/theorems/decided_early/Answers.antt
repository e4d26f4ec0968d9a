use Rattle.image.proofs.Decided.{decided_early}
use Rattle.image.proofs.theorems.decided_early.Goals as goal

pub returns : goal.returns
returns c = decided_early
