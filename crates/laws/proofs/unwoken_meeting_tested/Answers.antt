use Rattle.laws.proofs.FaultySends.{unwoken_tested}
use Rattle.laws.proofs.unwoken_meeting_tested.Goals as goal

pub returns : goal.returns
returns c = unwoken_tested
