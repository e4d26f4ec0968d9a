use Rattle.laws.proofs.Filling.{fills_up_least}
use Rattle.laws.proofs.fills_up_to_the_least.Goals as goal

pub returns : goal.returns
returns c = fills_up_least
