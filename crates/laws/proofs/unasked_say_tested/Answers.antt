use Rattle.laws.proofs.SpokenWorked.{unasked_tested}
use Rattle.laws.proofs.unasked_say_tested.Goals as goal

pub returns : goal.returns
returns c = unasked_tested
