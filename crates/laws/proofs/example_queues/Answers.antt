use Rattle.laws.proofs.ExampleCrowd.{in_order}
use Rattle.laws.proofs.example_queues.Goals as goal

pub returns : goal.returns
returns c = in_order
