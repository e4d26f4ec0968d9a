use Rattle.std.proofs.Common.{rules}
use Rattle.replay.proofs.Low.{after_low}
use Rattle.replay.proofs.places.Places.after.Goals as goal

pub returns-clause-low : goal.returns-clause-low
returns-clause-low c = after_low c.args.image.now.bytes.now c.args.image.now.objects c.args.o c.args.births c.args.self.now _ (search rules) c.requires.0 (search rules)
