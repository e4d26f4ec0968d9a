use Rattle.image.proofs.Computed.{met}
use Rattle.image.proofs.theorems.instances.Goals as goal

pub returns : goal.returns
returns c = met
