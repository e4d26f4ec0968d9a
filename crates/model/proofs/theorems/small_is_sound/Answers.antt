use Rattle.model.proofs.Small.{small_is_sound}
use Rattle.model.proofs.theorems.small_is_sound.Goals as goal

pub returns : goal.returns
returns c = small_is_sound
