use Rattle.laws.proofs.FaultyLaws.{wide_tested}
use Rattle.laws.proofs.wide_copy_tested.Goals as goal

pub returns : goal.returns
returns c = wide_tested
