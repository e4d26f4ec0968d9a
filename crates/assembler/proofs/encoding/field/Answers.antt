use Rattle.std.proofs.lemmas.Nat.{and_mask, one_shl}
use Rattle.std.proofs.Common.{◌<◌}
use Rattle.assembler.proofs.encoding.field.Goals as goal

pub returns : goal.returns
returns c = let h : c.args.count < 32 = c.requires.1 in simp (one_shl c.args.count 32 h) (and_mask _ c.args.count)
