use Rattle.space.proofs.Spaces.{new_is_free}
use Rattle.space.proofs.theorems.new_is_free.Goals as goal

pub returns : goal.returns
returns c = new_is_free
