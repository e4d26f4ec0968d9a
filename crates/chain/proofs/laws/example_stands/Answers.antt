use Rattle.chain.proofs.Worked.{example_stands}
use Rattle.chain.proofs.laws.example_stands.Goals as goal

pub returns : goal.returns
returns c = example_stands
