use Rattle.laws.proofs.ExampleSets.{parts}
use Rattle.laws.proofs.example_parts.Goals as goal

pub returns : goal.returns
returns c = parts
