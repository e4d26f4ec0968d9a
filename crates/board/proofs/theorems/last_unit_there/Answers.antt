use Rattle.board.proofs.Spans.{last_unit}
use Rattle.board.proofs.theorems.last_unit_there.Goals as goal

pub returns : goal.returns
returns c = last_unit
