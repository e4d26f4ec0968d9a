use Rattle.space.proofs.Stored.{stores_in_one_page}
use Rattle.space.proofs.theorems.stores_in_one_page.Goals as goal

pub returns : goal.returns
returns c = stores_in_one_page
