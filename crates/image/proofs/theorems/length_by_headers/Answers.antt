use Rattle.image.proofs.Sized.{length_by_headers}
use Rattle.image.proofs.theorems.length_by_headers.Goals as goal

pub returns : goal.returns
returns c = length_by_headers
