use Rattle.rv32.proofs.Kept.{zero_register}
use Rattle.rv32.proofs.theorems.zero_register.Goals as goal

pub returns : goal.returns
returns c = zero_register
