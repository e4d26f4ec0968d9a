use Rattle.rv32.specs.declared.registers.Cpu.{Cpu}
use Rattle.laws.proofs.Doings.{calls_do}
use Rattle.laws.proofs.what_calls_do.Goals as goal

pub returns : goal.returns
returns c = calls_do Cpu
