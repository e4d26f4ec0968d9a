use Rattle.laws.proofs.SpokenWorked.{speaking}
use Rattle.laws.proofs.example_speaks.Goals as goal

pub returns : goal.returns
returns c = speaking
