use Rattle.kernel.proofs.AllCalls.{calls_meet}
use Rattle.kernel.proofs.theorems.calls_meet.Goals as goal

pub returns : goal.returns
returns c = calls_meet
