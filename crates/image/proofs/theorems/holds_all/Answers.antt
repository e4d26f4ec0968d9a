use Rattle.image.proofs.Holding.{holds}
use Rattle.image.proofs.theorems.holds_all.Goals as goal

pub returns : goal.returns
returns c = holds
