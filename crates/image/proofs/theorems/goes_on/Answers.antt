use Rattle.image.proofs.Decided.{goes_on}
use Rattle.image.proofs.theorems.goes_on.Goals as goal

pub returns : goal.returns
returns c = goes_on
