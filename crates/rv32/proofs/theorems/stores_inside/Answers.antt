use Rattle.rv32.proofs.Reached.{stores_inside}
use Rattle.rv32.proofs.theorems.stores_inside.Goals as goal

pub returns : goal.returns
returns c = stores_inside
