use Rattle.chain.proofs.Kept.{take_out_keeps}
use Rattle.chain.proofs.laws.take_out_keeps.Goals as goal

pub returns : goal.returns
returns c = take_out_keeps
