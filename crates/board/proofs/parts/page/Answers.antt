use Rattle.std.proofs.Common.{arith}
use Rattle.std.proofs.lemmas.Bool.Decides.{nat_tests}
use Rattle.board.specs.Parts.{page_at}
use Rattle.board.proofs.parts.page.Goals as goal

pub returns-then-not-within : goal.returns-then-not-within
unfolding page_at
returns-then-not-within c = grind (arith, nat_tests)

pub returns : goal.returns
unfolding page_at
returns c = grind (arith, nat_tests)
