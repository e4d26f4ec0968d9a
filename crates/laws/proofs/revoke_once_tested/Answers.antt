use Rattle.laws.proofs.FaultySteps.{once_tested}
use Rattle.laws.proofs.revoke_once_tested.Goals as goal

pub returns : goal.returns
returns c = once_tested
