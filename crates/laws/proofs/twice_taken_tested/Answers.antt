use Rattle.laws.proofs.FaultyLaws.{twice_tested}
use Rattle.laws.proofs.twice_taken_tested.Goals as goal

pub returns : goal.returns
returns c = twice_tested
