use Rattle.chain.proofs.Kept.{insert_keeps}
use Rattle.chain.proofs.laws.insert_keeps.Goals as goal

pub returns : goal.returns
returns c = insert_keeps
