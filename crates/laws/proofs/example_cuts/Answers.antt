use Rattle.laws.proofs.Worked.{cut_both_ways}
use Rattle.laws.proofs.example_cuts.Goals as goal

pub returns : goal.returns
returns c = cut_both_ways
