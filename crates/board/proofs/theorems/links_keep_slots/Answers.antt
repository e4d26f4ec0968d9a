use Rattle.std.proofs.Common.{lit≤}
use Rattle.board.proofs.Held.{slots-put_word}
use Rattle.board.proofs.theorems.links_keep_slots.Goals as goal

pub returns : goal.returns
returns c = λ m p v. (slots-put_word m p 9 v (lit≤ tt), slots-put_word m p 10 v (lit≤ tt), slots-put_word m p 8 v (lit≤ tt), slots-put_word m p 11 v (lit≤ tt))
