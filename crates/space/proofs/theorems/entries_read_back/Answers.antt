use Rattle.space.proofs.Spaces.{entries_read_back}
use Rattle.space.proofs.theorems.entries_read_back.Goals as goal

pub returns : goal.returns
returns c = entries_read_back
