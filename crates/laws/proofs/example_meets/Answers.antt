use Rattle.laws.proofs.Worked.{meeting}
use Rattle.laws.proofs.example_meets.Goals as goal

pub returns : goal.returns
returns c = meeting
