use Rattle.laws.proofs.FaultyLaws.{counting_tested}
use Rattle.laws.proofs.telling_answer_tested.Goals as goal

pub returns : goal.returns
returns c = counting_tested
