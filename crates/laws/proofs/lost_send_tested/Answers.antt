use Rattle.laws.proofs.FaultyLaws.{lost_tested}
use Rattle.laws.proofs.lost_send_tested.Goals as goal

pub returns : goal.returns
returns c = lost_tested
