use Rattle.rv32.proofs.Kept.{starts_sound}
use Rattle.rv32.proofs.theorems.starts_sound.Goals as goal

pub returns : goal.returns
returns c = starts_sound
