use Rattle.image.proofs.Limited.{never_taken}
use Rattle.image.proofs.theorems.never_taken.Goals as goal

pub returns : goal.returns
returns c = never_taken
