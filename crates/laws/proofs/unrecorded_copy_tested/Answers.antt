use Rattle.laws.proofs.FaultySteps.{unrecorded_tested}
use Rattle.laws.proofs.unrecorded_copy_tested.Goals as goal

pub returns : goal.returns
returns c = unrecorded_tested
