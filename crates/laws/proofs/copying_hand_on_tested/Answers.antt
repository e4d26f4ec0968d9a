use Rattle.laws.proofs.FaultyHands.{copying_tested}
use Rattle.laws.proofs.copying_hand_on_tested.Goals as goal

pub returns : goal.returns
returns c = copying_tested
