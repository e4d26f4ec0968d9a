use Rattle.kernel.proofs.Found.{finds}
use Rattle.kernel.proofs.theorems.finds.Goals as goal

pub returns : goal.returns
returns c = finds
