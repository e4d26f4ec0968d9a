use Rattle.model.proofs.Happens.{calls_agree}
use Rattle.model.proofs.theorems.calls_agree.Goals as goal

pub returns : goal.returns
returns c = calls_agree
