use Rattle.laws.proofs.Worked.{made_twice}
use Rattle.laws.proofs.example_makes_twice.Goals as goal

pub returns : goal.returns
returns c = made_twice
