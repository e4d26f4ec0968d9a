use Rattle.kernel.proofs.Happening.{rows_meet}
use Rattle.kernel.proofs.theorems.rows_meet.Goals as goal

pub returns : goal.returns
returns c = rows_meet
