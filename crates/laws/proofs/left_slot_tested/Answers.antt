use Rattle.laws.proofs.FaultyLaws.{leaving_tested}
use Rattle.laws.proofs.left_slot_tested.Goals as goal

pub returns : goal.returns
returns c = leaving_tested
