use Rattle.chain.proofs.Kept.{run_is_offspring}
use Rattle.chain.proofs.laws.run_is_offspring.Goals as goal

pub returns : goal.returns
returns c = run_is_offspring
