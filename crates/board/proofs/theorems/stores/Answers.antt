use Rattle.board.proofs.Spans.{around-store, page-store, store_nothing}
use Rattle.board.proofs.theorems.stores.Goals as goal

pub returns : goal.returns
returns c = λ m p o bs. (around-store m p o bs, λ t. page-store m p o bs t, λ t. store_nothing m p o bs t)
