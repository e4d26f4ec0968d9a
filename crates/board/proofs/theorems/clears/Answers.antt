use Rattle.board.proofs.Spans.{around-cleared, byte-cleared, slot-cleared, cell-cleared, page-cleared, cleared_nothing}
use Rattle.board.proofs.theorems.clears.Goals as goal

pub returns : goal.returns
returns c = λ m p n. (around-cleared m p n, λ t. (λ b lo hi. byte-cleared m p n b t lo hi, λ q lo hi. (slot-cleared m p n q t lo hi, cell-cleared m p n q t lo hi), λ q lo hi. page-cleared m p n q t lo hi), λ t. cleared_nothing m p n t)
