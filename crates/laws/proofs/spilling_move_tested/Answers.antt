use Rattle.laws.proofs.FaultyLaws.{spilling_tested}
use Rattle.laws.proofs.spilling_move_tested.Goals as goal

pub returns : goal.returns
returns c = spilling_tested
