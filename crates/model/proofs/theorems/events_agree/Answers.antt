use Rattle.model.proofs.Happens.{events_agree}
use Rattle.model.proofs.theorems.events_agree.Goals as goal

pub returns : goal.returns
returns c = events_agree
