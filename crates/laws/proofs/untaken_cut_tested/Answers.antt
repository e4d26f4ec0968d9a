use Rattle.laws.proofs.FaultySteps.{untaken_tested}
use Rattle.laws.proofs.untaken_cut_tested.Goals as goal

pub returns : goal.returns
returns c = untaken_tested
