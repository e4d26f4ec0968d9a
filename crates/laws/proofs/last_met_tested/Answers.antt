use Rattle.laws.proofs.FaultyLaws.{last_tested}
use Rattle.laws.proofs.last_met_tested.Goals as goal

pub returns : goal.returns
returns c = last_tested
