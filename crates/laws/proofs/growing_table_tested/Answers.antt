use Rattle.laws.proofs.FaultyLaws.{growing_tested}
use Rattle.laws.proofs.growing_table_tested.Goals as goal

pub returns : goal.returns
returns c = growing_tested
