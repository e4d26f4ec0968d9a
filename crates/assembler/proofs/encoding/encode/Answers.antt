use Rattle.assembler.proofs.Back.{read_back}
use Rattle.assembler.proofs.encoding.encode.Goals as goal

pub returns-clause-back : goal.returns-clause-back
returns-clause-back c = read_back c.reads_back.ensures c.args.instruction _ c.encoded.ensures
