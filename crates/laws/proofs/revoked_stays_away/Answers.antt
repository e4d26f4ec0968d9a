use Rattle.rv32.specs.declared.registers.Cpu.{Cpu}
use Rattle.laws.proofs.Caps.{revoked}
use Rattle.laws.proofs.revoked_stays_away.Goals as goal

pub returns : goal.returns
returns c = revoked Cpu
