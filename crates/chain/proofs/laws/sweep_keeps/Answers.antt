use Rattle.chain.proofs.Kept.{sweep_keeps}
use Rattle.chain.proofs.laws.sweep_keeps.Goals as goal

pub returns : goal.returns
returns c = sweep_keeps
