use Rattle.std.proofs.Common.{arith}
use Rattle.std.proofs.lemmas.Bool.Decides.{nat_tests}
use Rattle.board.specs.Words.{put_word}
use Rattle.board.proofs.words.put_word.Goals as goal

pub returns-then-not-has_word : goal.returns-then-not-has_word
unfolding put_word
returns-then-not-has_word c = grind (arith, nat_tests)

pub returns : goal.returns
unfolding put_word
returns c = grind (arith, nat_tests)
