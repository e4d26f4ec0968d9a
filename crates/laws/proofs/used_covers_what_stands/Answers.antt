use Rattle.rv32.specs.declared.registers.Cpu.{Cpu}
use Rattle.laws.proofs.Standing.{used_covers}
use Rattle.laws.proofs.used_covers_what_stands.Goals as goal

pub returns : goal.returns
returns c = used_covers Cpu
