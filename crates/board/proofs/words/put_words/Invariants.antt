use Rattle.std.proofs.Common.{◌≡◌, drop}
use Rattle.board.specs.Words.{put_words}
use Rattle.board.proofs.words.put_words.Given as goal

abbrev pub invariant-loop-number : goal.invariant-loop-number
invariant-loop-number l = put_words l.board l.place l.number (drop l.number l.words) ≡ put_words l.fn.board l.fn.place 0 l.words
