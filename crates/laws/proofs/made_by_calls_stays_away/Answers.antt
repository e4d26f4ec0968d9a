use Rattle.rv32.specs.declared.registers.Cpu.{Cpu}
use Rattle.laws.proofs.Makings.{revoked_by_calls}
use Rattle.laws.proofs.made_by_calls_stays_away.Goals as goal

pub returns : goal.returns
returns c = revoked_by_calls Cpu
