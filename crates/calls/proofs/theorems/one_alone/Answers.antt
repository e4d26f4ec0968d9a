use Rattle.calls.proofs.Each.{one_alone}
use Rattle.calls.proofs.theorems.one_alone.Goals as goal

pub returns : goal.returns
returns c = one_alone
