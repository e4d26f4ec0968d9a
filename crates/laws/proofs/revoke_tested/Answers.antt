use Rattle.laws.proofs.Faults.{revoke_tested}
use Rattle.laws.proofs.revoke_tested.Goals as goal

pub returns : goal.returns
returns c = revoke_tested
