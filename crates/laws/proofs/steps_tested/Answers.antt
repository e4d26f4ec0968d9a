use Rattle.laws.proofs.FaultySteps.{steps_tested}
use Rattle.laws.proofs.steps_tested.Goals as goal

pub returns : goal.returns
returns c = steps_tested
