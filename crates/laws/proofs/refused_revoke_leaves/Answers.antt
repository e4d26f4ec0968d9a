use Rattle.rv32.specs.Registers.{fresh}
use Rattle.laws.proofs.Worked.{refused_leaves, hands_on}
use Rattle.laws.proofs.refused_revoke_leaves.Goals as goal

pub returns : goal.returns
returns c = λ h. refused_leaves (h fresh hands_on)
