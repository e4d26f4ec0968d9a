use Rattle.rv32.specs.declared.registers.Cpu.{Cpu}
use Rattle.laws.proofs.Revoking.{revoke_exactly, empty_stays}
use Rattle.laws.proofs.revoke_leaves_exactly.Goals as goal

pub returns : goal.returns
returns c = λ fresh act. (revoke_exactly Cpu fresh act, empty_stays Cpu fresh act)
