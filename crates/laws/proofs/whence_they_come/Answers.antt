use Rattle.rv32.specs.declared.registers.Cpu.{Cpu}
use Rattle.laws.proofs.Arrivals.{comes_from}
use Rattle.laws.proofs.whence_they_come.Goals as goal

pub returns : goal.returns
returns c = comes_from Cpu
