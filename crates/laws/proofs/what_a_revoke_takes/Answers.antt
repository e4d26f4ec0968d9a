use Rattle.rv32.specs.declared.registers.Cpu.{Cpu}
use Rattle.laws.proofs.Taking.{revoke_takes}
use Rattle.laws.proofs.what_a_revoke_takes.Goals as goal

pub returns : goal.returns
returns c = revoke_takes Cpu
