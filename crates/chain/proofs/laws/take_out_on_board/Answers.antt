use Rattle.chain.proofs.Boarded.{take_out_on_board}
use Rattle.chain.proofs.laws.take_out_on_board.Goals as goal

pub returns : goal.returns
returns c = take_out_on_board
