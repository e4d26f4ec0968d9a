use Rattle.std.proofs.Common.{rules}
use Rattle.replay.proofs.Low.{first_low}
use Rattle.replay.proofs.places.Places.first.Goals as goal

pub returns-clause-low : goal.returns-clause-low
returns-clause-low c = first_low c.args.image.now.bytes.now c.args.image.now.objects _ (search rules) (search rules) (search rules)
