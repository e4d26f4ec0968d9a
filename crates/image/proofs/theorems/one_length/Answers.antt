use Rattle.image.proofs.Sized.{one_length}
use Rattle.image.proofs.theorems.one_length.Goals as goal

pub returns : goal.returns
returns c = one_length
