use Rattle.laws.proofs.FaultyHands.{handed_over}
use Rattle.laws.proofs.example_hands_over.Goals as goal

pub returns : goal.returns
returns c = handed_over
