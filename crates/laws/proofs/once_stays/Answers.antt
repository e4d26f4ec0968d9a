use Rattle.rv32.specs.declared.registers.Cpu.{Cpu}
use Rattle.laws.proofs.Arrivals.{once_stays}
use Rattle.laws.proofs.once_stays.Goals as goal

pub returns : goal.returns
returns c = once_stays Cpu
