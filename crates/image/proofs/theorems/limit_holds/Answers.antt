use Rattle.image.proofs.Limited.{limit_holds}
use Rattle.image.proofs.theorems.limit_holds.Goals as goal

pub returns : goal.returns
returns c = limit_holds
