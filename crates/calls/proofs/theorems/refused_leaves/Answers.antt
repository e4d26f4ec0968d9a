use Rattle.calls.proofs.Each.{refused_leaves}
use Rattle.calls.proofs.theorems.refused_leaves.Goals as goal

pub returns : goal.returns
returns c = refused_leaves
