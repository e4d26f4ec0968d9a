use Rattle.chain.proofs.Worked.{example_on_board}
use Rattle.chain.proofs.laws.example_on_board.Goals as goal

pub returns : goal.returns
returns c = example_on_board
