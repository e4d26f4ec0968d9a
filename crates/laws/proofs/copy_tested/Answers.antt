use Rattle.laws.proofs.Faults.{copy_tested}
use Rattle.laws.proofs.copy_tested.Goals as goal

pub returns : goal.returns
returns c = copy_tested
