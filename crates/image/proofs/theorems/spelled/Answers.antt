use Rattle.image.proofs.Computed.{spelled}
use Rattle.image.proofs.theorems.spelled.Goals as goal

pub returns : goal.returns
returns c = spelled
