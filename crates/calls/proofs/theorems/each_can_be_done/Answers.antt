use Rattle.calls.proofs.Done.{each_can_be_done}
use Rattle.calls.proofs.theorems.each_can_be_done.Goals as goal

pub returns : goal.returns
returns c = each_can_be_done
