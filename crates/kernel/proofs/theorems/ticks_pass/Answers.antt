use Rattle.kernel.proofs.Ticking.{ticks_pass}
use Rattle.kernel.proofs.theorems.ticks_pass.Goals as goal

pub returns : goal.returns
returns c = ticks_pass
