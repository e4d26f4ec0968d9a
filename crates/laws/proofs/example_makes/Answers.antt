use Rattle.laws.proofs.Worked.{made_and_revoked}
use Rattle.laws.proofs.example_makes.Goals as goal

pub returns : goal.returns
returns c = made_and_revoked
