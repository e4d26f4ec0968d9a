use Rattle.chain.proofs.Kept.{move_keeps}
use Rattle.chain.proofs.laws.move_keeps.Goals as goal

pub returns : goal.returns
returns c = move_keeps
