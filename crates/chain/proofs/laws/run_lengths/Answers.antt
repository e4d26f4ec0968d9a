use Rattle.chain.proofs.Boarded.{run_lengths}
use Rattle.chain.proofs.laws.run_lengths.Goals as goal

pub returns : goal.returns
returns c = run_lengths
