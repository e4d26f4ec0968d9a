use Rattle.laws.proofs.ExampleWorld.{carried}
use Rattle.laws.proofs.example_carried.Goals as goal

pub returns : goal.returns
returns c = carried
