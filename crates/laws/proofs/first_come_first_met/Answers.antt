use Rattle.rv32.specs.declared.registers.Cpu.{Cpu}
use Rattle.laws.proofs.Order.{first_come}
use Rattle.laws.proofs.first_come_first_met.Goals as goal

pub returns : goal.returns
returns c = first_come Cpu
