use Rattle.rv32.specs.declared.registers.Cpu.{Cpu}
use Rattle.laws.proofs.Pools.{within}
use Rattle.laws.proofs.never_overdrawn.Goals as goal

pub returns : goal.returns
returns c = within Cpu
