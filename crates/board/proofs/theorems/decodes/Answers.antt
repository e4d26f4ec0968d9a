use Rattle.board.proofs.Held.{decoded-encoded}
use Rattle.board.proofs.theorems.decodes.Goals as goal

pub returns : goal.returns
returns c = decoded-encoded
