use Rattle.image.proofs.Limited.{faults_told}
use Rattle.image.proofs.theorems.faults_told.Goals as goal

pub returns : goal.returns
returns c = faults_told
