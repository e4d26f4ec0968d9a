use Rattle.laws.proofs.Faults.{port_tested}
use Rattle.laws.proofs.port_tested.Goals as goal

pub returns : goal.returns
returns c = port_tested
