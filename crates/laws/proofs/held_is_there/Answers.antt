use Rattle.rv32.specs.declared.registers.Cpu.{Cpu}
use Rattle.laws.proofs.Caps.{held_is_there}
use Rattle.laws.proofs.held_is_there.Goals as goal

pub returns : goal.returns
returns c = held_is_there Cpu
