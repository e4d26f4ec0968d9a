use Rattle.kernel.proofs.Small.{can_be_met}
use Rattle.kernel.proofs.theorems.can_be_met.Goals as goal

pub returns : goal.returns
returns c = can_be_met
