use Rattle.model.proofs.Always.{always_left}
use Rattle.model.proofs.theorems.always_left.Goals as goal

pub returns : goal.returns
returns c = always_left
