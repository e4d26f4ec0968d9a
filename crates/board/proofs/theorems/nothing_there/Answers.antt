use Rattle.board.proofs.Held.{slot-nothing, cell-nothing, put_slot_nothing, put_word_nothing}
use Rattle.board.proofs.theorems.nothing_there.Goals as goal

pub returns : goal.returns
returns c = λ m p t. (slot-nothing m p t, cell-nothing m p t, λ x. put_slot_nothing m p x t, λ v. (put_word_nothing m p 9 v t, put_word_nothing m p 10 v t, put_word_nothing m p 8 v t, put_word_nothing m p 11 v t))
