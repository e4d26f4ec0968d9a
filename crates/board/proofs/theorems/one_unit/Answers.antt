use Rattle.board.specs.Slots.{encoded}
use Rattle.board.proofs.Units.{around-put_word, around-put_words}
use Rattle.board.proofs.theorems.one_unit.Goals as goal

pub returns : goal.returns
returns c = λ m p. (λ x. around-put_words m p 0 (encoded x), λ v. (around-put_word m p 9 v, around-put_word m p 10 v, around-put_word m p 8 v, around-put_word m p 11 v))
