use Rattle.laws.proofs.CallsWorked.{rows_right}
use Rattle.laws.proofs.rows_are_right.Goals as goal

pub returns : goal.returns
returns c = rows_right
