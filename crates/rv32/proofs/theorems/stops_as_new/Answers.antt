use Rattle.rv32.proofs.Reached.{stops_as_new}
use Rattle.rv32.proofs.theorems.stops_as_new.Goals as goal

pub returns : goal.returns
returns c = stops_as_new
