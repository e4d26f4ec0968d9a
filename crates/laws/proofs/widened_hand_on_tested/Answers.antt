use Rattle.laws.proofs.FaultyHands.{widened_tested}
use Rattle.laws.proofs.widened_hand_on_tested.Goals as goal

pub returns : goal.returns
returns c = widened_tested
