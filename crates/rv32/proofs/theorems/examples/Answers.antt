use Rattle.rv32.proofs.Shown.{met}
use Rattle.rv32.proofs.theorems.examples.Goals as goal

pub returns : goal.returns
returns c = met
