use Rattle.kernel.proofs.Happening.{events_meet}
use Rattle.kernel.proofs.theorems.events_meet.Goals as goal

pub returns : goal.returns
returns c = events_meet
