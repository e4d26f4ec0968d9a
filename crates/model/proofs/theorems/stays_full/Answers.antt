use Rattle.model.proofs.Full.{stays_full}
use Rattle.model.proofs.theorems.stays_full.Goals as goal

pub returns : goal.returns
returns c = stays_full
