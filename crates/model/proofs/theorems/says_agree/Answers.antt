use Rattle.model.proofs.Spoken.{says_agree}
use Rattle.model.proofs.theorems.says_agree.Goals as goal

pub returns : goal.returns
returns c = says_agree
