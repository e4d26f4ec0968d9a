use Rattle.image.proofs.Means.{means_allowed}
use Rattle.image.proofs.theorems.means_allowed.Goals as goal

pub returns : goal.returns
returns c = means_allowed
