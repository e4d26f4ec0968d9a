use Rattle.model.proofs.Lasting.{rows_agree}
use Rattle.model.proofs.theorems.rows_agree.Goals as goal

pub returns : goal.returns
returns c = rows_agree
