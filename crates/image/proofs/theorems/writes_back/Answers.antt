use Rattle.image.proofs.Written.{writes_back}
use Rattle.image.proofs.theorems.writes_back.Goals as goal

pub returns : goal.returns
returns c = writes_back
