use Rattle.std.proofs.Common.{lit≤, refl}
use Rattle.board.proofs.theorems.can_be_met.Goals as goal

pub returns : goal.returns
returns c = (refl, refl, refl, lit≤ tt, lit≤ tt, lit≤ tt, lit≤ tt, lit≤ tt, lit≤ tt, tt)
