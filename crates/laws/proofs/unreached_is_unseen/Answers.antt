use Rattle.rv32.specs.declared.registers.Cpu.{Cpu}
use Rattle.laws.proofs.Unseen.{unreached}
use Rattle.laws.proofs.unreached_is_unseen.Goals as goal

pub returns : goal.returns
returns c = unreached Cpu
