use Rattle.chain.proofs.Boarded.{links_decide}
use Rattle.chain.proofs.laws.links_decide.Goals as goal

pub returns : goal.returns
returns c = links_decide
