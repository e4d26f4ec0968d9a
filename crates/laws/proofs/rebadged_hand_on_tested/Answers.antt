use Rattle.laws.proofs.FaultyHands.{rebadged_tested}
use Rattle.laws.proofs.rebadged_hand_on_tested.Goals as goal

pub returns : goal.returns
returns c = rebadged_tested
