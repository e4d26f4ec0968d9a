use Rattle.board.proofs.Held.{slot-around, cell-around}
use Rattle.board.proofs.Spans.{page-around}
use Rattle.board.proofs.theorems.lies_apart.Goals as goal

pub returns : goal.returns
returns c = λ m n p k s q. (λ h. (slot-around s q h, cell-around s q h), λ h. page-around s q h)
