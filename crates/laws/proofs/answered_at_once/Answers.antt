use Rattle.rv32.specs.declared.registers.Cpu.{Cpu}
use Rattle.laws.proofs.Asked.{at_once}
use Rattle.laws.proofs.answered_at_once.Goals as goal

pub returns : goal.returns
returns c = at_once Cpu
