use Rattle.rv32.proofs.Accounted.{accounts}
use Rattle.rv32.proofs.theorems.accounts.Goals as goal

pub returns : goal.returns
returns c = accounts
