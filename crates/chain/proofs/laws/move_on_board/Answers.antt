use Rattle.chain.proofs.Boarded.{move_on_board}
use Rattle.chain.proofs.laws.move_on_board.Goals as goal

pub returns : goal.returns
returns c = move_on_board
