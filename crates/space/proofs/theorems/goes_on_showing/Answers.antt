use Rattle.space.proofs.Stored.{goes_on_showing}
use Rattle.space.proofs.theorems.goes_on_showing.Goals as goal

pub returns : goal.returns
returns c = goes_on_showing
