use Rattle.rv32.specs.declared.registers.Cpu.{Cpu}
use Rattle.laws.proofs.Doings.{refused_leaves}
use Rattle.laws.proofs.refused_calls_leave.Goals as goal

pub returns : goal.returns
returns c = refused_leaves Cpu
