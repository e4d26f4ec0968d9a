use Rattle.laws.proofs.ExampleWorld.{starts}
use Rattle.laws.proofs.example_start.Goals as goal

pub returns : goal.returns
returns c = starts
