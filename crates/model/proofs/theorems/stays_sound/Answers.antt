use Rattle.model.proofs.Lasting.{stays_sound}
use Rattle.model.proofs.theorems.stays_sound.Goals as goal

pub returns : goal.returns
returns c = stays_sound
