use Rattle.image.proofs.Lying.{lying}
use Rattle.image.proofs.theorems.lies_apart.Goals as goal

pub returns : goal.returns
returns c = lying
