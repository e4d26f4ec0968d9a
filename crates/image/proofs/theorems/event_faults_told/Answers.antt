use Rattle.image.proofs.Rowed.{event_faults_told}
use Rattle.image.proofs.theorems.event_faults_told.Goals as goal

pub returns : goal.returns
returns c = event_faults_told
