use Rattle.board.proofs.Held.{slots-put_slot, cells-put_slot}
use Rattle.board.proofs.theorems.slots_hold.Goals as goal

pub returns : goal.returns
returns c = λ m p x t h. (slots-put_slot m p x t h, cells-put_slot m p x)
