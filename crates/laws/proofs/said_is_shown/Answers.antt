use Rattle.rv32.specs.declared.registers.Cpu.{Cpu}
use Rattle.laws.proofs.Spoken.{said_is_shown}
use Rattle.laws.proofs.said_is_shown.Goals as goal

pub returns : goal.returns
returns c = said_is_shown Cpu
