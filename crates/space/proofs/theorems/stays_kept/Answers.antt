use Rattle.space.proofs.Waits.{stays_kept}
use Rattle.space.proofs.theorems.stays_kept.Goals as goal

pub returns : goal.returns
returns c = stays_kept
