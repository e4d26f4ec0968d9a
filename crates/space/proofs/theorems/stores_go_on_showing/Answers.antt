use Rattle.space.proofs.Stored.{stores_go_on_showing}
use Rattle.space.proofs.theorems.stores_go_on_showing.Goals as goal

pub returns : goal.returns
returns c = stores_go_on_showing
