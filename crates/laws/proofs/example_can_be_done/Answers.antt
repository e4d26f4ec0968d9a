use Rattle.laws.proofs.Worked.{can_be_done}
use Rattle.laws.proofs.example_can_be_done.Goals as goal

pub returns : goal.returns
returns c = can_be_done
