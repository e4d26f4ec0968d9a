use Rattle.image.proofs.Named.{rows_named}
use Rattle.image.proofs.theorems.rows_named.Goals as goal

pub returns : goal.returns
returns c = rows_named
