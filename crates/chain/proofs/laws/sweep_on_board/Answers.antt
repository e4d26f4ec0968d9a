use Rattle.chain.proofs.Boarded.{sweep_on_board}
use Rattle.chain.proofs.laws.sweep_on_board.Goals as goal

pub returns : goal.returns
returns c = sweep_on_board
