use Rattle.laws.proofs.Faults.{hand_on_tested}
use Rattle.laws.proofs.hand_on_tested.Goals as goal

pub returns : goal.returns
returns c = hand_on_tested
