use Rattle.kernel.proofs.Found.{can_be_found}
use Rattle.kernel.proofs.theorems.can_be_found.Goals as goal

pub returns : goal.returns
returns c = can_be_found
