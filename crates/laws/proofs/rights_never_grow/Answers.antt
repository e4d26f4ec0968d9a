use Rattle.rv32.specs.declared.registers.Cpu.{Cpu}
use Rattle.laws.proofs.Caps.{no_more}
use Rattle.laws.proofs.rights_never_grow.Goals as goal

pub returns : goal.returns
returns c = no_more Cpu
