use Rattle.laws.proofs.Worked.{two_stand}
use Rattle.laws.proofs.example_stands.Goals as goal

pub returns : goal.returns
returns c = two_stand
