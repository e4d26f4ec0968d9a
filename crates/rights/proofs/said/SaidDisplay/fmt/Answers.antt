use Rattle.std.proofs.Common.{false, rules}
use Rattle.std.proofs.lemmas.Fmt.{hex_byte}
use Rattle.rights.proofs.said.SaidDisplay.fmt.Goals as goal

pub returns-clause-writes : goal.returns-clause-writes
returns-clause-writes g c = let h = hex_byte false c.args.self.now.byte (search rules) in rw (← h) (search rules)
