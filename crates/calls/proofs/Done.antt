-- Each call can be done: by computation.
use Rattle.std.proofs.Common.{refl}
use Rattle.board.specs.Words.{word, put_word, put_words}
use Rattle.calls.specs.Example.{EachCanBeDone}

pub each_can_be_done : EachCanBeDone
unfolding word put_word put_words
each_can_be_done = (refl, refl, refl, refl, refl, refl, refl, refl, refl, refl)
