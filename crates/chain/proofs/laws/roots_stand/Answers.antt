use Rattle.chain.proofs.Kept.{roots_stand}
use Rattle.chain.proofs.laws.roots_stand.Goals as goal

pub returns : goal.returns
returns c = roots_stand
