use Rattle.rv32.proofs.Reached.{reads_named}
use Rattle.rv32.proofs.theorems.reads_named.Goals as goal

pub returns : goal.returns
returns c = reads_named
