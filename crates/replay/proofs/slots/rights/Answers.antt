use Rattle.std.proofs.Common.{sym, ap, ◌∙◌}
use Rattle.rights.specs.Vocabulary.{rights_or}
use Rattle.replay.proofs.Lowest.{lowest}
use Rattle.replay.proofs.slots.rights.Goals as goal

pub returns : goal.returns
returns c = lowest c.args.byte c.in-Ok.rights (sym c.in-Ok.is ∙ c.try_from.ensures ∙ ap rights_or c.from.ensures)
