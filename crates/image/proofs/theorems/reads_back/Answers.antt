use Rattle.image.proofs.Holding.{reads_back}
use Rattle.image.proofs.theorems.reads_back.Goals as goal

pub returns : goal.returns
returns c = reads_back
