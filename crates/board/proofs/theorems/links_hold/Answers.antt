use Rattle.board.proofs.Held.{cells-put_next, cells-put_prev, cells-put_depth, cells-put_up}
use Rattle.board.proofs.theorems.links_hold.Goals as goal

pub returns : goal.returns
returns c = λ m p v t. (cells-put_next m p v t, cells-put_prev m p v t, cells-put_depth m p v t, cells-put_up m p v t)
