use Rattle.rv32.proofs.Reached.{one_page}
use Rattle.rv32.proofs.theorems.one_page.Goals as goal

pub returns : goal.returns
returns c = one_page
