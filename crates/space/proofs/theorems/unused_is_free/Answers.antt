use Rattle.space.proofs.Spaces.{unused_is_free}
use Rattle.space.proofs.theorems.unused_is_free.Goals as goal

pub returns : goal.returns
returns c = unused_is_free
