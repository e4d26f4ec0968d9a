use Rattle.space.proofs.Waits.{lines_in_order}
use Rattle.space.proofs.theorems.lines_in_order.Goals as goal

pub returns : goal.returns
returns c = lines_in_order
