use Rattle.chain.proofs.Boarded.{insert_on_board}
use Rattle.chain.proofs.laws.insert_on_board.Goals as goal

pub returns : goal.returns
returns c = insert_on_board
